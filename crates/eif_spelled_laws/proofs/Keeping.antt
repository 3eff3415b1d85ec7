-- What a spelling tells of tokens in which no identifier is `result`: the tokens behind it are such again, and X.
use Rattle.std.proofs.Common.{◌≡◌, ℕ, false, List, [], ◌∷◌, inl, inr, subst, sym}
use Rattle.std.specs.Str.{bytes_eq}
use Rattle.eif_base.specs.declared.Place.{Place}
use Rattle.eif_tree.specs.declared.NameAt.{NameAt}
use Rattle.eif_tree.specs.Members.{result_name}
use Rattle.eif_grammar.specs.declared.terminal.Terminal.{Terminal}
use Rattle.eif_grammar.specs.declared.terminal.Terminal.TheVariants as t
use Rattle.eif_grammar.specs.Tokens.{Token}
use Rattle.eif_grammar.specs.Spelling as spelling
use Rattle.eif_grammar.specs.Spelling.{Spelling, ◌⨟◌, ◌or◌, given}
use Rattle.eif_spelled_trees.specs.SpelledTrees.{IsName, Each}
use Rattle.eif_spelled_laws.proofs.CutTokens.{AreCut}
use Rattle.eif_spelled_laws.proofs.Eaches.{each_none, each_and}

pub record Gives (s : Spelling) (X : Type 0) : Type 0 where
  pub read : (ts rest : List Token) → s ts rest → AreCut ts → AreCut rest × X

abbrev pub Keeps : Spelling → Type 0
Keeps s = Gives s (Unit {0})

-- ---- of any spelling

pub told : {s : Spelling} {X Y : Type 0} → (X → Y) → Gives s X → Gives s Y
told f g = record { read = λ ts rest h cut. let r = g.read ts rest h cut in (r.0, f r.1) }

pub kept : {s : Spelling} {X : Type 0} → Gives s X → Keeps s
kept g = told (λ x. tt) g

-- one after the other, and what both tell, or the second, or the first
pub both : {a b : Spelling} {X Y : Type 0} → Gives a X → Gives b Y → Gives (a ⨟ b) (X × Y)
both f g = record {
  read = λ ts rest h cut.
      let p = f.read ts h.0 h.1 cut in let q = g.read h.0 rest h.2 p.0 in (q.0, (p.1, q.1));
}

infixr 5 ◌▸◌
pub ◌▸◌ : {a b : Spelling} {X Y : Type 0} → Gives a X → Gives b Y → Gives (a ⨟ b) Y
f ▸ g = record { read = λ ts rest h cut. let p = f.read ts h.0 h.1 cut in g.read h.0 rest h.2 p.0 }

pub first : {a b : Spelling} {X Y : Type 0} → Gives a X → Gives b Y → Gives (a ⨟ b) X
first f g = told (λ x. x.0) (both f g)

pub either : {a b : Spelling} {X : Type 0} → Gives a X → Gives b X → Gives (a or b) X
either {a} {b} {X} f g = record { read = go }
  where
    go : (ts rest : List Token) → (a or b) ts rest → AreCut ts → AreCut rest × X
    go ts rest (inl h) cut = f.read ts rest h cut
    go ts rest (inr h) cut = g.read ts rest h cut

-- a spelling, and something else of the tokens
pub also : {a : Spelling} {B : List Token → List Token → Type 0} {X : Type 0} → Gives a X
    → Gives (λ ts rest. a ts rest × B ts rest) X
also f = record { read = λ ts rest h cut. f.read ts rest h.0 cut }

-- some spelling of many
pub some_of : {A : Type 0} {s : A → Spelling} {X : Type 0} → ((x : A) → Gives (s x) X)
    → Gives (λ ts rest. (x : A) × s x ts rest) X
some_of f = record { read = λ ts rest h cut. (f h.0).read ts rest h.1 cut }

-- ---- of no token

pub nothing : Keeps spelling.nothing
nothing = record { read = λ ts rest e cut. (subst AreCut e cut, tt) }

pub stays : {B : List Token → List Token → Type 0} → Keeps (λ ts rest. B ts rest × (ts ≡ rest))
stays = record { read = λ ts rest h cut. (subst AreCut h.1 cut, tt) }

pub fact : {P : Type 0} → Gives (given P) P
fact = record { read = λ ts rest h cut. (subst AreCut h.1 cut, h.0) }

-- the fact may be needed behind it
pub given_then : {P : Type 0} {s : Spelling} {X : Type 0} → (P → Gives s X) → Gives (given P ⨟ s) X
given_then {s} f = record { read = λ ts rest h cut. (f h.1.0).read ts rest (subst (λ l. s l rest) (sym h.1.1) h.2) cut }

pub never : {X : Type 0} → Gives spelling.never X
never = record { read = λ ts rest h cut. absurd h }

-- ---- of one token

pub one : (p : Token → Type 0) (X : Type 0) → ((w : Token) → p w → X) → Gives (spelling.one p) X
one p X f = record { read = go }
  where
    go : (ts rest : List Token) → spelling.one p ts rest → AreCut ts → AreCut rest × X
    go [] rest h cut = absurd h
    go (w ∷ ts) rest h cut = (subst AreCut h.1 cut.1, f w h.0)

pub token : (p : Token → Type 0) → Keeps (spelling.one p)
token p = one p (Unit {0}) (λ w h. tt)

pub the : (x : Terminal) → Keeps (spelling.the x)
the x = token (λ w. w.terminal ≡ x)

pub the_at : (x : Terminal) (p : Place) → Keeps (spelling.the_at x p)
the_at x p = token (λ w. (w.terminal ≡ x) × (w.place ≡ p))

pub name_at : (p : Place) (n : List ℕ) → Gives (spelling.name_at p n) (bytes_eq n result_name ≡ false)
name_at p n = record { read = go }
  where
    go : (ts rest : List Token) → spelling.name_at p n ts rest → AreCut ts
        → AreCut rest × (bytes_eq n result_name ≡ false)
    go [] rest h cut = absurd h
    go (w ∷ ts) rest h cut = (
      subst AreCut h.1 cut.1,
      subst (λ l. bytes_eq l result_name ≡ false) h.0.2 (cut.0 h.0.0),
    )

pub the_name : (n : NameAt) → Gives (spelling.the_name n) (IsName n)
the_name n = name_at n.place n.name

pub maybe : (x : Terminal) → Keeps (spelling.maybe x)
maybe x = either (the x) stays

-- ---- of many

pub semicolons : Keeps spelling.semicolons
semicolons = record { read = go }
  where
    go : (ts rest : List Token) → spelling.semicolons ts rest → AreCut ts → AreCut rest × Unit {0}
    go [] rest e cut = (subst AreCut e tt, tt)
    go (w ∷ ts) rest (inl h) cut = go ts rest h.1 cut.1
    go (w ∷ ts) rest (inr h) cut = (subst AreCut h.1 cut, tt)

pub more_names : (ns : List NameAt) → Gives (spelling.more_names ns) (Each IsName ns)
more_names [] = told (λ x. each_none IsName) stays
more_names (n ∷ ns) = the t.Comma ▸ told (λ x. each_and IsName n ns x.0 x.1) (both (the_name n) (more_names ns))

pub names : (ns : List NameAt) → Gives (spelling.names ns) (Each IsName ns)
names [] = never
names (n ∷ ns) = told (λ x. each_and IsName n ns x.0 x.1) (both (the_name n) (more_names ns))

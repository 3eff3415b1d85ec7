-- How the completing words of a rule are put together, part by part.
use Rattle.std.proofs.Common.{◌≡◌, true, false, Bool, ℕ, Option, Some, None, List, [], ◌∷◌, ◌++◌, refl, ap, sym, ◌∙◌, subst, append_assoc}
use Rattle.std.specs.Prelude.{codes}
use Rattle.eif_grammar.specs.declared.terminal.Terminal.{Terminal}
use Rattle.eif_grammar.specs.declared.terminal.Terminal.TheVariants as t
use Rattle.eif_grammar.specs.Tokens.{Token}
use Rattle.eif_grammar.specs.Spelling.{head}
use Rattle.eif_grammar.specs.Goals.{Goal, Found, token}
use Rattle.eif_grammar.specs.Reader.{Reader, done, refuse, look, next, call, guard, fork, expect}
use Rattle.eif_grammar.specs.Outcomes.{rule, got, Runs, Calls}
use Rattle.eif_grammar_laws.proofs.Readers.{ended, looked, taken, called, guarded, forked, forked_not, by_rule}
use Rattle.eif_grammar_laws.proofs.Terminals.{token_found}
use Rattle.eif_grammar_laws.proofs.Endings.{stops, HasRoom}
use Rattle.eif_grammar_laws.proofs.Fronts.{first, Ends, Soft, Alive}

-- ---- single tokens

-- the text of a token that completes something; other tokens complete nothing
pub sample_text : Terminal → List ℕ
sample_text t.Identifier = codes "a"
sample_text t.Integer = codes "1"
sample_text t.StringText = codes "\"\""
sample_text t.All = codes "all"
sample_text t.As = codes "as"
sample_text t.Class = codes "class"
sample_text t.Do = codes "do"
sample_text t.End = codes "end"
sample_text t.Loop = codes "loop"
sample_text t.Then = codes "then"
sample_text t.Until = codes "until"
sample_text t.Void = codes "Void"
sample_text t.CloseParenthesis = codes ")"
sample_text t.CloseBracket = codes "]"
sample_text t.OpenBrace = codes "{"
sample_text t.CloseBrace = codes "}"
sample_text t.Colon = codes ":"
sample_text t.Dot = codes "."
sample_text t.Assign = codes ":="
sample_text _ = []

-- a token that completes something
abbrev pub sample_token : Terminal → Token
sample_token x = record { terminal = x; place = record { file = 0; offset = 0; line = 0; column = 0 }; text = sample_text x }

-- ---- words that a goal reads

-- how two words begin, one after the other
abbrev pub both : Option Terminal → Option Terminal → Option Terminal
both None b = b
both (Some x) b = Some x

pub record Sample (g : Goal) (b : Option Terminal) : Type 0 where
  pub value : Found g
  pub word : List Token
  pub begins : (rest : List Token) → head (word ++ rest) ≡ first b (head rest)
  pub calls : (rest : List Token) → stops g (head rest) ≡ true → Calls g (word ++ rest) (got value rest)

pub sample_of : {g : Goal} {b : Option Terminal} → Ends g b (rule g) → Sample g b
sample_of f = record { value = f.value; word = f.word; begins = f.begins; calls = λ rest st. by_rule (f.runs rest st) }

pub one_token : (x : Terminal) → Sample (token x) (Some x)
one_token x = record { value = sample_token x; word = sample_token x ∷ []; begins = λ rest. refl; calls = λ rest st. token_found refl }

-- ---- words that end a reader

pub ends_done : {G : Goal} {A : Type 0} {a : A} → Ends G None (done a)
ends_done {a} = record { value = a; word = []; begins = λ rest. refl; runs = λ rest st. ended }

first_both : (b' b : Option Terminal) (y : Terminal) → first b' (first b y) ≡ first (both b' b) y
first_both None b y = refl
first_both (Some x) b y = refl

pub ends_call : {G g : Goal} {A : Type 0} {k : Found g → Reader A} {b' b : Option Terminal} (s : Sample g b') → Soft G g b → Ends G b (k s.value) → Ends G (both b' b) (call g k)
ends_call {G} {g} {A} {k} {b'} {b} s soft f = record {
  value = f.value;
  word = s.word ++ f.word;
  begins = λ rest. ap head (append_assoc s.word f.word rest) ∙ s.begins (f.word ++ rest) ∙ ap (first b') (f.begins rest) ∙ first_both b' b (head rest);
  runs = λ rest st. rw (append_assoc s.word f.word rest) (called (s.calls (f.word ++ rest) (ap (stops g) (f.begins rest) ∙ soft (head rest) st)) (f.runs rest st));
}

-- any token
pub ends_next : {G : Goal} {A : Type 0} {k : Token → Reader A} {b : Option Terminal} (x : Terminal) → Ends G b (k (sample_token x)) → Ends G (Some x) (next k)
ends_next x f = record { value = f.value; word = sample_token x ∷ f.word; begins = λ rest. refl; runs = λ rest st. taken (f.runs rest st) }

pub ends_guard : {G : Goal} {A : Type 0} {r : Reader A} {b : Option Terminal} {test : Bool} → test ≡ true → Ends G b r → Ends G b (guard test r)
ends_guard e f = record { value = f.value; word = f.word; begins = f.begins; runs = λ rest st. guarded e (f.runs rest st) }

-- by what the word begins with
pub ends_look : {G : Goal} {A : Type 0} {k : Terminal → Reader A} (x : Terminal) → Ends G (Some x) (k x) → Ends G (Some x) (look k)
ends_look {G} {A} {k} x f = record {
  value = f.value;
  word = f.word;
  begins = f.begins;
  runs = λ rest st. looked (subst (λ y. Runs (k y) (f.word ++ rest) (got f.value rest)) (sym (f.begins rest)) (f.runs rest st));
}

pub ends_found : {G : Goal} {A : Type 0} {found other : Reader A} {test : Terminal → Bool} (x : Terminal) → test x ≡ true → Ends G (Some x) found
    → Ends G (Some x) (look (λ y. fork (test y) found other))
ends_found {test} x e f = record {
  value = f.value;
  word = f.word;
  begins = f.begins;
  runs = λ rest st. looked (forked (ap test (f.begins rest) ∙ e) (f.runs rest st));
}

pub ends_other : {G : Goal} {A : Type 0} {found other : Reader A} {test : Terminal → Bool} {b : Option Terminal} → ((y : Terminal) → stops G y ≡ true → test (first b y) ≡ false) → Ends G b other
    → Ends G b (look (λ y. fork (test y) found other))
ends_other {test} out f = record {
  value = f.value;
  word = f.word;
  begins = f.begins;
  runs = λ rest st. looked (forked_not (ap test (f.begins rest) ∙ out (head rest) st) (f.runs rest st));
}

-- ---- readers that can be completed wherever they may refuse

pub record Living (G : Goal) {A : Type 0} (r : Reader A) : Type 0 where
  pub alive : Alive G r

-- and at once
pub record Live (G : Goal) (b : Option Terminal) {A : Type 0} (r : Reader A) : Type 0 where
  pub ends : Ends G b r
  pub living : Living G r

pub living_done : {G : Goal} {A : Type 0} {a : A} → Living G (done a)
living_done = record { alive = tt }

pub living_refuse : {G : Goal} {A : Type 0} → Living G {A = A} refuse
living_refuse = record { alive = tt }

pub living_look : {G : Goal} {A : Type 0} {k : Terminal → Reader A} → ((x : Terminal) → Living G (k x)) → Living G (look k)
living_look l = record { alive = λ x. (l x).alive }

pub living_next : {G : Goal} {A : Type 0} {k : Token → Reader A} {b : Option Terminal} → ((n : Token) → Live G b (k n)) → Living G (next k)
living_next {b} l = record { alive = λ n. (b, (l n).ends, (l n).living.alive) }

pub living_guard : {G : Goal} {A : Type 0} {r : Reader A} {test : Bool} → (test ≡ true → Living G r) → Living G (guard test r)
living_guard l = record { alive = λ e. (l e).alive }

pub living_fork : {G : Goal} {A : Type 0} {r s : Reader A} {test : Bool} → (test ≡ true → Living G r) → (test ≡ false → Living G s) → Living G (fork test r s)
living_fork f o = record { alive = (λ e. (f e).alive, λ e. (o e).alive) }

pub living_test : {G : Goal} {A : Type 0} {found other : Reader A} {test : Terminal → Bool} → Living G found → Living G other → Living G (look (λ y. fork (test y) found other))
living_test f o = record { alive = λ y. (λ e. f.alive, λ e. o.alive) }

pub living_call : {G g : Goal} {A : Type 0} {k : Found g → Reader A} {b : Option Terminal} → HasRoom g → Soft G g b → ((a : Found g) → Live G b (k a)) → Living G (call g k)
living_call {b} room soft l = record { alive = (room, λ a. (b, soft, (l a).ends, (l a).living.alive)) }

pub living_token : {G : Goal} {A : Type 0} {x : Terminal} {k : Token → Reader A} {b : Option Terminal} → ((n : Token) → Live G b (k n)) → Living G (call (token x) k)
living_token l = living_call tt (λ y st. refl) l

pub living_expect : {G : Goal} {A : Type 0} {x : Terminal} {r : Reader A} {b : Option Terminal} → Live G b r → Living G (expect x r)
living_expect l = living_call tt (λ y st. refl) (λ n. l)

pub live_done : {G : Goal} {A : Type 0} {a : A} → Live G None (done a)
live_done = record { ends = ends_done; living = living_done }

pub live_call : {G g : Goal} {A : Type 0} {k : Found g → Reader A} {b' b : Option Terminal} → Sample g b' → HasRoom g → Soft G g b → ((a : Found g) → Live G b (k a)) → Live G (both b' b) (call g k)
live_call s room soft l = record { ends = ends_call s soft (l s.value).ends; living = living_call room soft l }

pub live_token : {G : Goal} {A : Type 0} {x : Terminal} {k : Token → Reader A} {b : Option Terminal} → ((n : Token) → Live G b (k n)) → Live G (Some x) (call (token x) k)
live_token {x} l = live_call (one_token x) tt (λ y st. refl) l

pub live_expect : {G : Goal} {A : Type 0} {x : Terminal} {r : Reader A} {b : Option Terminal} → Live G b r → Live G (Some x) (expect x r)
live_expect {x} l = live_call (one_token x) tt (λ y st. refl) (λ n. l)

-- completed by what stands behind that token
pub live_found : {G : Goal} {A : Type 0} {k : Token → Reader A} {other : Reader A} {test : Terminal → Bool} {b : Option Terminal} (x : Terminal) → test x ≡ true
    → ((n : Token) → Live G b (k n)) → Living G other → Live G (Some x) (look (λ y. fork (test y) (next k) other))
live_found x e l o = record { ends = ends_found x e (ends_next x (l (sample_token x)).ends); living = living_test (living_next l) o }

-- completed by what goes on where it isn't there
pub live_other : {G : Goal} {A : Type 0} {found other : Reader A} {test : Terminal → Bool} {b : Option Terminal} → ((y : Terminal) → stops G y ≡ true → test (first b y) ≡ false)
    → Living G found → Live G b other → Live G b (look (λ y. fork (test y) found other))
live_other out f l = record { ends = ends_other out l.ends; living = living_test f l.living }

-- Groups, declarations and features that tokens spell are as the grammar has them.
use Rattle.std.proofs.Common.{◌≡◌, true, false, pos, ◌-ℤ◌, List, [], ◌∷◌, length, Option, Some, None, is_some, flat_map, subst, refl, sym, ap}
use Rattle.eif_tree.specs.declared.NameAt.{NameAt}
use Rattle.eif_tree.specs.declared.Literal.{Literal}
use Rattle.eif_tree.specs.declared.Literal.TheVariants as lit
use Rattle.eif_tree.specs.Tree.{TypeT, GroupT, ClientsT, KindT, attribute, constant, deferred_body, routine, DeclT, FeaturesT}
use Rattle.eif_grammar.specs.declared.terminal.Terminal.TheVariants as t
use Rattle.eif_grammar.specs.Literals.{integer_value, character_value, string_value}
use Rattle.eif_grammar.specs.SpelledClasses as spelled
use Rattle.eif_spelled_trees.specs.SpelledTrees.{Each, IsName, AreGroups, IsTyped, IsAlone, HasForm, IsSpelledDeclaration}
use Rattle.eif_spelled_laws.proofs.Eaches.{each_none, each_and, each_append}
use Rattle.eif_spelled_laws.proofs.Keeping.{Gives, Keeps, told, kept, both, ◌▸◌, first, either, given_then, nothing, stays, fact, never, token, the, the_name, maybe, semicolons, names}
use Rattle.eif_spelled_laws.proofs.WrittenExpressions.{type_tree}
use Rattle.eif_spelled_laws.proofs.WrittenInstructions.{assertions_behind, compound}

-- ---- what is in no tree, and what is no part of the law

pub literal : (x : Literal) → Keeps (spelled.spells_literal x)
literal (lit.Int z) = either
    (maybe t.Plus ▸ token (λ w. (w.terminal ≡ t.Integer) × (integer_value w.text ≡ z)))
    (the t.Minus ▸ token (λ w. (w.terminal ≡ t.Integer) × (pos 0 -ℤ integer_value w.text ≡ z)))
literal (lit.Char b) = token (λ w. (w.terminal ≡ t.Character) × (character_value w.text ≡ b))
literal (lit.Text l) = token (λ w. (w.terminal ≡ t.StringText) × (string_value w.text ≡ l))
literal (lit.Bool true) = the t.True
literal (lit.Bool false) = the t.False

pub obsolete : Keeps spelled.obsolete
obsolete = either (the t.Obsolete ▸ the t.StringText) stays

maybe_names : (ns : List NameAt) → Keeps (spelled.maybe_names ns)
maybe_names [] = stays
maybe_names (n ∷ ns) = kept (names (n ∷ ns))

pub clients : (c : ClientsT) → Keeps (spelled.spells_clients c)
clients c = stays ▸ the t.OpenBrace ▸ maybe_names c.names ▸ the t.CloseBrace

pub maybe_clients : (c : ClientsT) → Keeps (spelled.maybe_clients c)
maybe_clients c = either (clients c) (stays ▸ stays)

-- ---- groups

abbrev IsGroup : GroupT → Type 0
IsGroup g = Each IsName g.names

group : (g : GroupT) → Gives (spelled.spells_group g) (IsGroup g)
group g = first (names g.names) (the t.Colon ▸ type_tree g.type_tree)

more_groups : (gs : List GroupT) → Gives (spelled.more_groups gs) (AreGroups gs)
more_groups [] = told (λ x. each_none IsGroup) nothing
more_groups (g ∷ gs) = semicolons ▸ told (λ x. each_and IsGroup g gs x.0 x.1) (both (group g) (more_groups gs))

formal_arguments : (gs : List GroupT) → Gives (spelled.spells_formal_arguments gs) (AreGroups gs)
formal_arguments [] = told (λ x. each_none IsGroup) stays
formal_arguments (g ∷ gs) =
    the t.OpenParenthesis
    ▸ told (λ x. each_and IsGroup g gs x.0 x.1) (both (group g) (first (more_groups gs) (the t.CloseParenthesis)))

local_groups : (gs : List GroupT) → Gives (spelled.local_groups gs) (AreGroups gs)
local_groups [] = told (λ x. each_none IsGroup) stays
local_groups (g ∷ gs) = told (λ x. each_and IsGroup g gs x.0 x.1) (both (group g) (semicolons ▸ local_groups gs))

locals : (gs : List GroupT) → Gives (spelled.spells_locals gs) (AreGroups gs)
locals gs = either (the t.Local ▸ local_groups gs)
    (told (λ e. subst AreGroups (sym e) (each_none IsGroup)) (first fact stays))

-- ---- routines

result : (ty : Option TypeT) → Keeps (spelled.spells_result ty)
result None = stays
result (Some ty) = the t.Colon ▸ type_tree ty

body : (d : DeclT) (k : KindT) → IsAlone d → Gives (spelled.spells_body k) (HasForm d k)
body d attribute one = never
body d (constant x) one = never
body d deferred_body one = told (λ x. one) (the t.Deferred)
body d (routine ls is) one = told (λ x. (one, x.0, x.1)) (both (locals ls) (the t.Do ▸ compound is))

named : (d : DeclT) (n : NameAt) → d.names ≡ n ∷ [] → IsName n → Each IsName d.names
named d n e h = subst (Each IsName) (sym e) (each_and IsName n [] h (each_none IsName))

a_routine : (d : DeclT) (n : NameAt) → d.names ≡ n ∷ [] → Gives (spelled.spells_routine d n) (IsSpelledDeclaration d)
a_routine d n e =
    told (λ x. record { names = named d n e x.0; arguments = x.1.0; form = x.1.1 })
    (both (the_name n) (both (formal_arguments d.arguments)
    (result d.result_type ▸ obsolete ▸ assertions_behind t.Require (maybe t.Else) d.preconditions
    ▸ first (body d d.kind (ap length e)) (assertions_behind t.Ensure (maybe t.Then) d.postconditions ▸ the t.End))))

-- ---- attributes and constants

no_routine : (ns : List NameAt) → Keeps (spelled.no_routine ns)
no_routine [] = nothing
no_routine (n ∷ []) = stays
no_routine (n ∷ m ∷ ns) = nothing

value : (d : DeclT) (ns : List NameAt) (k : KindT) → IsTyped d → Gives (spelled.spells_value ns k) (HasForm d k)
value d ns attribute h = told (λ x. h) (stays ▸ no_routine ns)
value d ns (constant x) h = told (λ y. h) (the t.Equal ▸ literal x)
value d ns deferred_body h = never
value d ns (routine ls is) h = never

typed : (d : DeclT) (ty : TypeT) → d.result_type ≡ Some ty → d.arguments ≡ [] → IsTyped d
typed d ty e none = (none, ap is_some e)

some_attributes : (d : DeclT) (ty : TypeT) → d.result_type ≡ Some ty
    → Gives (spelled.spells_attributes d ty) (IsSpelledDeclaration d)
some_attributes d ty e = given_then (λ none.
    told (λ x. record {
      names = x.0;
      arguments = subst AreGroups (sym none.0) (each_none IsGroup);
      form = x.1;
    })
    (both (names d.names) (the t.Colon ▸ type_tree ty ▸ value d d.names d.kind (typed d ty e none.0))))

-- ---- declarations

attributes_of : (d : DeclT) (o : Option TypeT) → d.result_type ≡ o
    → Gives (spelled.attributes_of d o) (IsSpelledDeclaration d)
attributes_of d None e = never
attributes_of d (Some ty) e = some_attributes d ty e

routine_of : (d : DeclT) (ns : List NameAt) → d.names ≡ ns → Gives (spelled.routine_of d ns) (IsSpelledDeclaration d)
routine_of d [] e = never
routine_of d (n ∷ []) e = a_routine d n e
routine_of d (n ∷ m ∷ ns) e = never

declaration : (d : DeclT) → Gives (spelled.spells_declaration d) (IsSpelledDeclaration d)
declaration d = either (attributes_of d d.result_type refl) (routine_of d d.names refl)

declarations : (ds : List DeclT) → Gives (spelled.spells_declarations ds) (Each IsSpelledDeclaration ds)
declarations [] = told (λ x. each_none IsSpelledDeclaration) stays
declarations (d ∷ ds) =
    told (λ x. each_and IsSpelledDeclaration d ds x.0 x.1) (both (declaration d) (semicolons ▸ declarations ds))

pub features : (fs : List FeaturesT)
    → Gives (spelled.spells_features fs) (Each IsSpelledDeclaration (flat_map (λ f. f.decls) fs))
features [] = told (λ x. each_none IsSpelledDeclaration) stays
features (f ∷ fs) =
    the t.Feature ▸ maybe_clients f.clients
    ▸ told (λ x. each_append IsSpelledDeclaration f.decls (flat_map (λ f. f.decls) fs) x.0 x.1)
    (both (declarations f.decls) (features fs))

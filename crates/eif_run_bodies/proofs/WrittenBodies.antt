-- What the grammar alone says of a declaration that a class finds: a routine is called by its one name, and no argument
-- or local is called Result.
use Rattle.std.proofs.Common.{◌≡◌, ℕ, true, false, List, [], ◌∷◌, length, Some, None, refl, sym, ap, ap₂, ◌∙◌, arith}
use Rattle.std.specs.Option.{option_map}
use Rattle.std.specs.Prelude.{cond, find, slice_get, ◌||◌}
use Rattle.std.specs.Str.{bytes_eq}
use Rattle.eif_ancestry.proofs.Members.{or_false}
use Rattle.eif_tree.specs.declared.tree.NameAt.{NameAt}
use Rattle.eif_tree.specs.Members.{has_name, declarations, result_name}
use Rattle.eif_tree.specs.Tree.{GroupT, DeclT, ClassT}
use Rattle.eif_classes.specs.Features.{declaration_of, local_groups}
use Rattle.eif_lineage_laws.proofs.EachItem.{AllOf, all_from}
use Rattle.eif_meaning.specs.Frames.{type_in, entity_by, entity}
use Rattle.eif_binding_laws.proofs.Searches.{same_bytes, found_has, found_passes}
use Rattle.eif_spelled_trees.specs.SpelledTrees.{IsName, AreGroups, IsAlone, IsSpelledDeclaration, IsSpelledClass}

-- a declaration that is found is spelled
pub spelled_declared : (c : ClassT) → IsSpelledClass c → (n : List ℕ) (x : DeclT) → declaration_of c n ≡ Some x →
    IsSpelledDeclaration x
spelled_declared c s n x found =
    found_has IsSpelledDeclaration (λ x. has_name x.names n) (declarations c) x
    (all_from IsSpelledDeclaration (declarations c) s.declared) found

-- ---- Result

not_among : (ns : List NameAt) → AllOf IsName ns → has_name ns result_name ≡ false
not_among [] h = refl
not_among (n ∷ ns) h = ap (λ b. b || has_name ns result_name) h.0 ∙ not_among ns h.1

no_type : (gs : List GroupT) → AllOf (λ (g : GroupT). AllOf IsName g.names) gs → type_in gs result_name ≡ None
no_type [] h = refl
no_type (g ∷ gs) h =
    ap (λ b. option_map (λ g. g.type_tree) (cond b (Some g) (find (λ g. has_name g.names result_name) gs)))
    (not_among g.names h.0)
    ∙ no_type gs h.1

groups_named : (gs : List GroupT) → AreGroups gs → AllOf (λ (g : GroupT). AllOf IsName g.names) gs
groups_named gs h =
    all_from (λ (g : GroupT). AllOf IsName g.names) gs
    (λ i g at. all_from IsName g.names (h i g at))

pub none_called_result : (x : DeclT) → AreGroups x.arguments → AreGroups (local_groups x.kind) →
    entity x result_name ≡ None
none_called_result x a l =
    ap₂ entity_by (no_type x.arguments (groups_named x.arguments a))
    (no_type (local_groups x.kind) (groups_named (local_groups x.kind) l))

-- ---- the name of a routine

pub one_name : (ns : List NameAt) (n : List ℕ) → length ns ≡ 1 → has_name ns n ≡ true →
    option_map (λ (m : NameAt). m.name) (slice_get ns 0) ≡ Some n
one_name [] n e h = cc
one_name (m ∷ []) n e h = ap Some (same_bytes m.name n (sym (or_false (bytes_eq m.name n)) ∙ h))
one_name (m ∷ k ∷ ns) n e h = absurd (omega arith)

pub called_by_name : (c : ClassT) (n : List ℕ) (x : DeclT) → declaration_of c n ≡ Some x → IsAlone x →
    option_map (λ (m : NameAt). m.name) (slice_get x.names 0) ≡ Some n
called_by_name c n x found alone =
    one_name x.names n alone (found_passes (λ x. has_name x.names n) (declarations c) x found)

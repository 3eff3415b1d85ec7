-- The names of creators that are written.
use Rattle.std.proofs.Common.{◌≡◌, ℕ, Bool, List, [], ◌∷◌, map, refl, sym, ap, ap₂, ◌∙◌}
use Rattle.std.specs.Prelude.{◌||◌}
use Rattle.std.specs.List.{flat_map, list_any}
use Rattle.std.specs.Str.{bytes_eq}
use Rattle.std.proofs.lemmas.List.Folds.{list_any-append}
use Rattle.eif_classes.specs.Clients.{client_names}
use Rattle.eif_classes.specs.Creators.{Creator, creators_in}
use Rattle.eif_tree.specs.Members.{has_name}
use Rattle.eif_tree.specs.Tree.{CreatorsT}
use Rattle.eif_tree.specs.declared.tree.NameAt.{NameAt}

module _ (n : List ℕ) where
  abbrev pub is_that : Creator → Bool
  is_that x = bytes_eq x.name n

  in_part : (part : CreatorsT) (ns : List NameAt) →
      list_any is_that (map (λ m. record { name = m.name; clients = client_names part.clients }) ns) ≡ has_name ns n
  in_part part [] = refl
  in_part part (m ∷ ns) = ap (λ b. bytes_eq m.name n || b) (in_part part ns)

  -- a creator of some parts is one of their names
  pub creators_named : (parts : List CreatorsT) →
      list_any is_that (flat_map creators_in parts) ≡ has_name (flat_map (λ part. part.names) parts) n
  creators_named [] = refl
  creators_named (part ∷ parts) =
      list_any-append is_that (creators_in part) (flat_map creators_in parts)
      ∙ (ap₂ (λ a b. a || b) (in_part part part.names) (creators_named parts)
      ∙ sym (list_any-append (λ (m : NameAt). bytes_eq m.name n) part.names (flat_map (λ part. part.names) parts)))

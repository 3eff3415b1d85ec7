-- What is judged so far, and one item more.
use Rattle.std.proofs.Common.{◌≡◌, ℕ, Bool, true, List, [], ◌∷◌, ◌++◌, length, map, Option, Some, None, refl, sym, ap, ◌∙◌}
use Rattle.std.specs.Prelude.{◌==◌, not, flat_map}
use Rattle.std.specs.List.{filter_map, cons_option}
use Rattle.std.proofs.Math.Dec.{eqb-suc-zero}
use Rattle.std.proofs.lemmas.Grind.{flat_map-append}
use Rattle.std.proofs.lemmas.List.{append-nil, map-append}
use Rattle.std.proofs.lemmas.List.Elements.{filter_map-append}
use Rattle.eif_base.specs.Numbering.{is_among}
use Rattle.eif_base.specs.declared.fault.Fault.{Fault}
use Rattle.eif_base.specs.declared.place.Place.{Place}
use Rattle.eif_tree.specs.declared.class.ExportItem.{ExportItem}
use Rattle.eif_tree.specs.declared.tree.NameAt.{NameAt}
use Rattle.eif_tree.specs.Tree.{ExportT}
use Rattle.eif_tree.specs.View.{export_view}
use Rattle.eif_feature_rules.specs.ClauseRules.{repeated_all}
use Rattle.eif_adapt.specs.Parts.{AreJudged, AreAllsJudged}
use Rattle.eif_adapt.proofs.InTurn.{in_turn, one_more}
use Rattle.eif_adapt.proofs.Listed.{HasMore, name_set_more}

module _ (judge : List NameAt → NameAt → List Fault) (old : List Fault) where
  pub nothing_judged : (set : List (List ℕ)) → set ≡ [] → AreJudged judge old old set []
  nothing_judged set is = record { faults = sym (append-nil old); set = λ n. ap (λ s. is_among s n) is }

  pub name_judged : (out new : List Fault) (earlier more : List (List ℕ)) (before : List NameAt) (x : NameAt)
      → new ≡ out ++ judge before x → HasMore earlier more x.name → AreJudged judge old out earlier before
      → AreJudged judge old new more (before ++ x ∷ [])
  name_judged out new earlier more before x pushed added h = record {
    faults = one_more judge old out new before x h.faults pushed;
    set = name_set_more earlier more before x added h.set;
  }

-- the names in export items
abbrev pub names_in : List ExportItem → List NameAt
names_in items = flat_map (λ x. x.names) (map export_view items)

pub names_in-push : (items : List ExportItem) (x : ExportItem) → names_in items ++ x.names.items ≡ names_in (items ++ x ∷ [])
names_in-push items x =
    let names : ExportT → List NameAt = λ x. x.names in
    ap (λ ns. names_in items ++ ns) (sym (append-nil x.names.items))
    ∙ (sym (flat_map-append names (map export_view items) (export_view x ∷ []))
    ∙ ap (flat_map names) (sym (map-append export_view items (x ∷ []))))

-- where `all` stands
abbrev alls : List ExportT → List Place
alls items = filter_map (λ x. x.all) items

one_all : (x : ExportT) (o : Option Place) → x.all ≡ o → alls (x ∷ []) ≡ cons_option o []
one_all x o is = ap (λ o. cons_option o []) is

is_some_place : (places : List Place) (place : Place) → true ≡ not (length (places ++ place ∷ []) == 0)
is_some_place [] place = refl
is_some_place (x ∷ xs) place = ap not (sym (eqb-suc-zero (length (xs ++ place ∷ []))))

module _ (class : List ℕ) (old : List Fault) (before : List ExportT) (x : ExportT) where
  alls-push : (o : Option Place) → x.all ≡ o → alls (before ++ x ∷ []) ≡ alls before ++ cons_option o []
  alls-push o is =
      filter_map-append (λ (x : ExportT). x.all) before (x ∷ []) ∙ ap (λ ps. alls before ++ ps) (one_all x o is)

  pub all_judged : (out new : List Fault) (found : Bool) (place : Place) → x.all ≡ Some place
      → new ≡ out ++ repeated_all class (alls before) place → AreAllsJudged class old out found before
      → AreAllsJudged class old new true (before ++ x ∷ [])
  all_judged out new found place is pushed h = record {
    faults = one_more (repeated_all class) old out new (alls before) place h.faults pushed
        ∙ ap (λ ps. old ++ in_turn (repeated_all class) ps) (sym (alls-push (Some place) is));
    has_all = is_some_place (alls before) place
        ∙ ap (λ (ps : List Place). not (length ps == 0)) (sym (alls-push (Some place) is));
  }

  pub no_all_judged : (out : List Fault) (found : Bool) → x.all ≡ None → AreAllsJudged class old out found before
      → AreAllsJudged class old out found (before ++ x ∷ [])
  no_all_judged out found is h =
      let same : alls before ≡ alls (before ++ x ∷ []) = sym (alls-push None is ∙ append-nil (alls before)) in
      record {
        faults = h.faults ∙ ap (λ ps. old ++ in_turn (repeated_all class) ps) same;
        has_all = h.has_all ∙ ap (λ (ps : List Place). not (length ps == 0)) same;
      }

-- Runs from the root.
use Rattle.std.proofs.Common.{◌≡◌, ℕ, Bool, true, false, not, List, [], ◌∷◌, Option, Some, None, refl, sym, ap, subst}
use Rattle.std.specs.Prelude.{◌&&◌, if◌then◌else◌, slice_get}
use Rattle.std.specs.Option.{option_map_or, option_and_then}
use Rattle.eif_tree.specs.Tree.{ClassT}
use Rattle.eif_classes.specs.KernelNumbers.{is_basic}
use Rattle.eif_flow_rules.specs.FieldSets.{no_fields}
use Rattle.eif_meaning.specs.Values.{reference, Store, no_feature, Outcome, done, stopped, cut_off, wrong}
use Rattle.eif_meaning.specs.System.{System, declaration_in, system_over}
use Rattle.eif_meaning.specs.Objects.{new_object}
use Rattle.eif_meaning.specs.Run.{level, root_store, run_root, went_wrong, ran, run_class, run, IsWrong}
use Rattle.eif_run_laws.specs.Holders.{IsHeap}
use Rattle.eif_run_laws.specs.Steps.{Safe}
use Rattle.eif_run_laws.proofs.Heaps.{heap_created}
use Rattle.eif_run_sound.specs.Soundness.{root_type, IsRoot}
use Rattle.eif_run_sound.specs.UniverseLaws.{UniverseLaws}
use Rattle.eif_run_sound.proofs.Creations.{new_ready}
use Rattle.eif_run_sound.proofs.Declarations.{declaration_ok}
use Rattle.eif_run_sound.proofs.Levels.{level_ok}

not_wrong : {A : Type 0} (o : Outcome Store A) (q : Store → A → Type 0) → Safe o q → IsWrong (ran o) → ⊥
not_wrong (done s a) q h w = w
not_wrong (stopped v) q h w = w
not_wrong (cut_off v) q h w = w
not_wrong (wrong k v) q h w = h

not_basic : (o : Option ClassT) (b : Bool) → option_map_or (λ (c : ClassT). not c.is_deferred && not b) o false ≡ true
    → b ≡ false
not_basic None b h = cc
not_basic (Some c) false h = refl
not_basic (Some c) true h = never c.is_deferred h
  where
    never : (a : Bool) → (not a && false) ≡ true → true ≡ false
    never true h = cc
    never false h = cc

module _ (u : List ClassT) (laws : UniverseLaws u) (class_name procedure : List ℕ)
    (root : IsRoot u class_name procedure) (n : ℕ) where
  abbrev system : System
  system = system_over u

  abbrev d : ℕ
  d = root.number

  first_heap : IsHeap system (new_object system (root_type d) ∷ [])
  first_heap =
      heap_created system laws.types [] (root_type d) (λ q o e. cc) root.made (not_basic (slice_get u d)
      (is_basic d) root.creatable)

  root_ok : IsWrong (ran (run_root n system d (system.origin d procedure))) → ⊥
  root_ok =
      let w = root.creator in
      subst (λ o. IsWrong (ran (run_root n system d o)) → ⊥) (sym (ap (option_and_then declaration_in) w.version_is))
      (not_wrong _ _
      (declaration_ok u (level system n n) (level_ok u laws n n) (root_store system d) first_heap (reference 0)
      (new_object system (root_type d)) refl (root_type d) refl w.version [] None [] no_fields w.serves tt
      (λ m a e h. new_ready system (root_type d) m a e h) w.met))

  pub run_ok : IsWrong (run n system class_name procedure) → ⊥
  run_ok =
      subst (λ o. IsWrong (run_class n system procedure o) → ⊥) (sym root.named)
      (subst (λ t. IsWrong (if t then ran (run_root n system d
      (system.origin d procedure)) else went_wrong no_feature []) → ⊥)
      (sym root.creatable) root_ok)

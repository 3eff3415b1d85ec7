-- Which fields of a class are due.
use Rattle.std.proofs.Common.{◌≡◌, ℕ, Bool, true, false, List, [], ◌∷◌, map, Option, Some, None, refl, sym, ap, subst, ◌∙◌}
use Rattle.std.specs.Prelude.{cond, find, not, if◌then◌else◌}
use Rattle.std.specs.List.{filter}
use Rattle.std.specs.Option.{option_map, option_map_or, option_and_then}
use Rattle.std.specs.Str.{bytes_eq}
use Rattle.std.proofs.lemmas.Option.{same_Some}
use Rattle.eif_base.specs.Numbering.{is_among}
use Rattle.eif_tree.specs.Tree.{ClassT}
use Rattle.eif_system.specs.Lineage.{line_of}
use Rattle.eif_classes.specs.Entries.{Declaration, Origin, deferred, declared_as, clashing, Feature}
use Rattle.eif_classes.specs.Features.{features, is_attribute, is_field, feature, fields}
use Rattle.eif_classes.specs.Types.{TyT, is_self_initialising}
use Rattle.eif_flow_rules.specs.Summaries.{is_due}
use Rattle.eif_meaning.specs.System.{declaration_in, system_over}
use Rattle.eif_meaning.specs.Objects.{result_type, field_type}
use Rattle.eif_run_sound.specs.Fields.{due}
use Rattle.eif_ancestry.proofs.Members.{or_cases, or_left, or_right}
use Rattle.eif_binding_laws.proofs.Searches.{same_bytes, turned}

-- a name that passes is kept
pub among_kept : (keep : List ℕ → Bool) (ns : List (List ℕ)) (n : List ℕ) → is_among ns n ≡ true
    → keep n ≡ true → is_among (filter keep ns) n ≡ true
among_kept keep [] n h k = cc
among_kept keep (m ∷ ns) n h k =
    or_cases _ (bytes_eq n m) (is_among ns n) h
    (λ t. subst (λ b. is_among (cond b (m ∷ filter keep ns) (filter keep ns)) n ≡ true)
    (sym (ap keep (sym (same_bytes n m t)) ∙ k)) (or_left (bytes_eq n m) (is_among (filter keep ns) n) t))
    (λ t. by (keep m) (among_kept keep ns n t k))
  where
    by : (b : Bool) → is_among (filter keep ns) n ≡ true
        → is_among (cond b (m ∷ filter keep ns) (filter keep ns)) n ≡ true
    by true r = or_right (bytes_eq n m) (is_among (filter keep ns) n) r
    by false r = r

-- the fields are the names that are found to be fields
field_among : (fs : List Feature) (n : List ℕ) (f : Feature) → find (λ f. bytes_eq f.name n) fs ≡ Some f
    → is_field f.origin ≡ true
    → is_among (map (λ f. f.name) (filter (λ f. is_field f.origin) fs)) n ≡ true
field_among [] n f e k = cc
field_among (g ∷ fs) n f e k = by (bytes_eq g.name n) refl e (field_among fs n f)
  where
    rest : List Feature
    rest = filter (λ f. is_field f.origin) fs

    here : bytes_eq g.name n ≡ true → g ≡ f
        → is_among (map (λ f. f.name) (cond (is_field g.origin) (g ∷ rest) rest)) n ≡ true
    here t q =
        subst (λ b. is_among (map (λ f. f.name) (cond b (g ∷ rest) rest)) n ≡ true)
        (sym (ap (λ (f : Feature). is_field f.origin) q ∙ k))
        (or_left (bytes_eq n g.name) (is_among (map (λ f. f.name) rest) n) (turned n g.name t))

    later : (b : Bool) → is_among (map (λ f. f.name) rest) n ≡ true
        → is_among (map (λ f. f.name) (cond b (g ∷ rest) rest)) n ≡ true
    later true r = or_right (bytes_eq n g.name) (is_among (map (λ f. f.name) rest) n) r
    later false r = r

    by : (b : Bool) → bytes_eq g.name n ≡ b → cond b (Some g) (find (λ f. bytes_eq f.name n) fs) ≡ Some f
        → (find (λ f. bytes_eq f.name n) fs ≡ Some f → is_field f.origin ≡ true
        → is_among (map (λ f. f.name) rest) n ≡ true)
        → is_among (map (λ f. f.name) (cond (is_field g.origin) (g ∷ rest) rest)) n ≡ true
    by true t e r = here t (same_Some g f e)
    by false t e r = later (is_field g.origin) (r e k)

-- a name whose origin is an attribute, with its result
record IsField (u : List ClassT) (d : ℕ) (n : List ℕ) (t : TyT) : Type 0 where
  pub here : Feature
  pub found : feature (line_of u d) n ≡ Some here
  pub attribute : is_field here.origin ≡ true
  pub result : result_type (system_over u) d n ≡ Some t

module _ (u : List ClassT) (d : ℕ) (n : List ℕ) (t : TyT) where
  abbrev typed_by : Option Declaration → Option TyT
  typed_by o =
      option_and_then (λ x. if is_attribute x.tree.kind then result_type (system_over u) d n else None) o

  field_is : field_type (system_over u) d n ≡ Some t → IsField u d n t
  field_is h = by (feature (line_of u d) n) refl h
    where
      kind : (f : Feature) → feature (line_of u d) n ≡ Some f → (x : Declaration) → f.origin ≡ declared_as x
          → (b : Bool) → is_attribute x.tree.kind ≡ b
          → (if b then result_type (system_over u) d n else None) ≡ Some t → IsField u d n t
      kind f e x o true k h = record { here = f; found = e; attribute = ap is_field o ∙ k; result = h }
      kind f e x o false k h = cc

      version : (f : Feature) → feature (line_of u d) n ≡ Some f → (o : Origin) → f.origin ≡ o
          → typed_by (declaration_in o) ≡ Some t → IsField u d n t
      version f e deferred q h = cc
      version f e clashing q h = cc
      version f e (declared_as x) q h = kind f e x q (is_attribute x.tree.kind) refl h

      by : (o : Option Feature) → feature (line_of u d) n ≡ o
          → typed_by (option_and_then declaration_in (option_map (λ (f : Feature). f.origin) o)) ≡ Some t
          → IsField u d n t
      by None e h = cc
      by (Some f) e h = version f e f.origin refl h

  pub due_or_set : field_type (system_over u) d n ≡ Some t → is_self_initialising t ≡ false
      → due u d n ≡ true
  due_or_set h s =
      let w = field_is h in
      among_kept (is_due u (line_of u d)) (fields (line_of u d)) n
      (field_among (features (line_of u d)) n w.here w.found w.attribute)
      (ap (λ o. option_map_or (λ t. not (is_self_initialising t)) o false) w.result ∙ ap not s)

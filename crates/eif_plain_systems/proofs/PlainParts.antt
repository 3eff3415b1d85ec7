-- What a plain class is made of: procedures that call procedures of the class, and nothing else.
use Rattle.std.proofs.Common.{◌≡◌, ℕ, true, List, [], ◌∷◌, ◌++◌, length, Option, Some, None, refl, sym, ap, ◌∙◌, arith}
use Rattle.std.specs.List.{flat_map, list_all}
use Rattle.std.specs.Prelude.{◌==◌, is_none}
use Rattle.eif_base.specs.declared.code.Code.TheVariants as code
use Rattle.eif_base.specs.declared.fault.Fault.{Fault}
use Rattle.eif_base.specs.declared.place.Place.{Place}
use Rattle.eif_lineage_laws.proofs.EachItem.{AllOf, all_both}
use Rattle.eif_lineage_laws.proofs.NoFaults.{none_left, none_right, none_of_each, none_where}
use Rattle.eif_rules.specs.FaultForms.{fault_at, fault_in}
use Rattle.eif_system.specs.WrittenTypes.{feature_name}
use Rattle.eif_system_rules.specs.PlainClasses.{no_assertions, is_plain_call, has_plain_calls, is_plain_routine, is_plain_declaration, is_plain}
use Rattle.eif_system_rules.specs.SystemRules.{not_yet, unknown_name, unknown_names, unknown_names_in}
use Rattle.eif_tree.specs.declared.tree.NameAt.{NameAt}
use Rattle.eif_tree.specs.Members.{has_name, declarations, declared_names, body_of, called_by, called_in}
use Rattle.eif_tree.specs.Tree.{TypeT, unqualified, Exs, no_exs, Ins, call, Inss, no_inss, and_ins, GroupT, KindT, routine, DeclT, ClassT}
use Rattle.eif_binding_laws.proofs.Redeclared.{not_false}
use Rattle.eif_type_laws.proofs.SameTypes.{and_left, and_right}

-- ---- the parts

-- a call without arguments of a name that the class declares
pub record IsCall (c : ClassT) (i : Ins) : Type 0 where
  pub place : Place
  pub name : List ℕ
  pub is : i ≡ call (unqualified place name no_exs)
  pub known : has_name (declared_names c) name ≡ true

abbrev pub AreCalls : ClassT → Inss → Type 0
AreCalls c no_inss = Unit {0}
AreCalls c (and_ins i is) = IsCall c i × AreCalls c is

-- a procedure without arguments, locals and assertions
abbrev pub bare_procedure : List NameAt → Inss → DeclT
bare_procedure names code = record {
  names = names;
  arguments = [];
  result_type = None;
  kind = routine [] code;
  preconditions = no_exs;
  postconditions = no_exs;
}

-- it is one, of such calls alone
pub record IsProcedure (c : ClassT) (x : DeclT) : Type 0 where
  pub code : Inss
  pub is : x ≡ bare_procedure x.names code
  pub calls : AreCalls c code

pub record IsPlainClass (c : ClassT) : Type 0 where
  pub formals : c.formals ≡ []
  pub parents : c.parents ≡ []
  pub invariants : c.invariants ≡ no_exs
  pub procedures : AllOf (IsProcedure c) (declarations c)

-- ---- what tests say

is_empty : {A : Type 0} (xs : List A) → (length xs == 0) ≡ true → xs ≡ []
is_empty [] h = refl
is_empty (x ∷ xs) h = grind arith

is_left_out : {A : Type 0} (o : Option A) → is_none o ≡ true → o ≡ None
is_left_out None h = refl
is_left_out (Some a) h = cc

none_written : (es : Exs) → no_assertions es ≡ true → es ≡ no_exs
none_written no_exs h = refl
none_written _ h = cc

-- the instructions of a plain routine
plain_code : (k : KindT) → is_plain_routine k ≡ true →
    (code : Inss) × (k ≡ routine [] code) × (has_plain_calls code ≡ true)
plain_code (routine [] code) plain = (code, refl, plain)
plain_code _ plain = cc

-- ---- calls

module _ (c : ClassT) (x : DeclT) where
  abbrev unknown : List NameAt → List Fault
  unknown ns = flat_map (unknown_name c (declared_names c) x) ns

  is_call : (i : Ins) (more : List NameAt) → is_plain_call i ≡ true → unknown (called_by i ++ more) ≡ [] →
      IsCall c i × (unknown more ≡ [])
  is_call (call (unqualified p n no_exs)) more plain none =
      let first = unknown_name c (declared_names c) x (record { place = p; name = n }) in (
        record {
          place = p;
          name = n;
          is = refl;
          known = not_false (has_name (declared_names c) n)
              (none_where _ (fault_in c (feature_name x.names) code.Veen 1 p n) (none_left first (unknown more) none));
        },
        none_right first (unknown more) none,
      )
  is_call _ more plain none = cc

  are_calls : (is : Inss) → has_plain_calls is ≡ true → unknown (called_in is) ≡ [] → AreCalls c is
  are_calls no_inss plain none = tt
  are_calls (and_ins i is) plain none =
      let here = is_call i (called_in is) (and_left (is_plain_call i) _ plain) none in
      (here.0, are_calls is (and_right (is_plain_call i) _ plain) here.1)

  procedure : is_plain_declaration x ≡ true → unknown_names c (declared_names c) x ≡ [] → IsProcedure c x
  procedure plain none =
      let claimless = and_left _ (no_assertions x.postconditions) plain in
      let up_to_kind = and_left _ (no_assertions x.preconditions) claimless in
      let head = and_left _ (is_plain_routine x.kind) up_to_kind in
      let arguments = is_empty x.arguments (and_right _ _ (and_left _ (is_none x.result_type) head)) in
      let result = is_left_out x.result_type (and_right _ _ head) in
      let body = plain_code x.kind (and_right _ _ up_to_kind) in
      let requires = none_written x.preconditions (and_right _ _ claimless) in
      let ensures = none_written x.postconditions (and_right _ _ plain) in
      let bare = bare_procedure x.names body.0 in
      record {
        code = body.0;
        is =
            ap (λ (gs : List GroupT). record x { arguments = gs }) arguments
            ∙ ap (λ (o : Option TypeT). record x { arguments = []; result_type = o }) result
            ∙ ap (λ (k : KindT). record x { arguments = []; result_type = None; kind = k }) body.1
            ∙ ap (λ (es : Exs). record bare { preconditions = es; postconditions = x.postconditions }) requires
            ∙ ap (λ (es : Exs). record bare { postconditions = es }) ensures;
        calls = are_calls body.0 body.2 (ap (λ k. unknown (called_in (body_of k))) (sym body.1) ∙ none);
      }

-- ---- the class

pub plain_class : (c : ClassT) → not_yet c ≡ [] → unknown_names_in c ≡ [] → IsPlainClass c
plain_class c judged known =
    let plain = not_false (is_plain c) (none_where _ (fault_at c code.Xyet 1 c.place []) judged) in
    let form = and_left _ _ plain in
    let claimless = and_left _ (no_assertions c.invariants) form in
    let up_to_creation = and_left _ (list_all is_plain_declaration (declarations c)) claimless in
    let head = and_left _ _ up_to_creation in
    record {
      formals = is_empty c.formals (and_right _ _ (and_left _ (length c.parents == 0) head));
      parents = is_empty c.parents (and_right _ _ head);
      invariants = none_written c.invariants (and_right _ _ form);
      procedures = all_both (λ x. is_plain_declaration x ≡ true) (λ x. unknown_names c (declared_names c) x ≡ [])
          (IsProcedure c) (declarations c) (procedure c) (each (declarations c) (and_right _ _ claimless))
          (none_of_each (unknown_names c (declared_names c)) (declarations c) known);
    }
  where
    each : (xs : List DeclT) → list_all is_plain_declaration xs ≡ true →
        AllOf (λ x. is_plain_declaration x ≡ true) xs
    each [] h = tt
    each (x ∷ xs) h =
        (and_left (is_plain_declaration x) _ h, each xs (and_right (is_plain_declaration x) _ h))

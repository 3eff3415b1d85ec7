-- Entries of a name, as the class sees them, and what is judged beside each.
use Rattle.std.specs.Prelude.{◌≡◌, ℕ, Bool, true, not, ◌&&◌, ◌||◌, if◌then◌else◌, List, [], ◌∷◌, map, Option, Some, None}
use Rattle.std.specs.List.{list_all}
use Rattle.std.specs.Option.{option_map, option_to_list}
use Rattle.eif_base.specs.declared.code.Code.TheVariants as code
use Rattle.eif_base.specs.declared.fault.Fault.{Fault}
use Rattle.eif_classes.specs.Entries.{is_effective, lasts}
use Rattle.eif_classes.specs.Features.{is_attribute, is_field}
use Rattle.eif_classes.specs.Signatures.{Signature, SignedEntry, declared_signature}
use Rattle.eif_feature_rules.specs.JoinRules.{SignedName}
use Rattle.eif_feature_rules.specs.RuleForms.{DeclaredName}
use Rattle.eif_feature_rules.specs.SignaturePairs as pairs
use Rattle.eif_redecl.specs.declared.declared.DeclaredSignature.{DeclaredSignature}
use Rattle.eif_redecl.specs.declared.entry.SeenEntry.{SeenEntry}
use Rattle.eif_redecl.specs.declared.joined.JoinedName.{JoinedName}
use Rattle.eif_rules.specs.FaultForms.{fault_in}
use Rattle.eif_signatures.specs.SignatureViews.{signature_view}
use Rattle.eif_system.specs.WrittenTypes.{type_name}
use Rattle.eif_tree.specs.Tree.{ParentT, ClassT}
use Rattle.eif_tree.specs.View.{parent_view}
use Rattle.eif_tree.specs.declared.tree.NameAt.{NameAt}

-- what counts of an entry: its clause, whether it is an attribute in the parent, whether it is effective there and not
-- undefined, and its signature over the formals of the heir
pub record EntryView : Type 0 where
  pub clause : ParentT
  pub is_field : Bool
  pub lasts : Bool
  pub signature : Signature

abbrev pub entry_view : SeenEntry → EntryView
entry_view e = record {
  clause = parent_view e.clause.now;
  is_field = e.is_field;
  lasts = e.lasts;
  signature = signature_view e.signature;
}

-- the same of an entry of the definitions
abbrev pub seen : SignedEntry → EntryView
seen s = record {
  clause = s.entry.clause;
  is_field = is_field s.entry.feature.origin;
  lasts = lasts s.entry;
  signature = s.signature;
}

-- these are the entries
abbrev pub AreSeen : List SeenEntry → List SignedEntry → Type 0
AreSeen xs es = map entry_view xs ≡ map seen es

-- the name x that the class c declares, with the signature that it writes
pub record IsDeclared (u : List ClassT) (c : ClassT) (n : DeclaredSignature) (x : DeclaredName) : Type 0 where
  pub name : n.name.now ≡ x.name
  pub attribute : n.is_attribute ≡ is_attribute x.tree.kind
  pub written : signature_view n.signature.now ≡ declared_signature u c x.tree

-- the name x, which the class does not declare
pub record IsJoined (n : JoinedName) (entries : List SeenEntry) (x : SignedName) : Type 0 where
  pub named : n.name.now ≡ x.feature.name
  pub version : n.is_effective ≡ is_effective x.feature.origin
  pub signed : x.signature ≡ Some (signature_view n.signature.now)
  pub seen_are : AreSeen entries x.entries

-- ---- a declared name

-- the first of the rules VDRD.1 to 5 that is broken by a declaration with the signature s, which is an attribute or
-- not, beside an entry with the signature t, which is an attribute or not
abbrev pub broken_case : List ClassT → ℕ → Bool → Signature → Bool → Signature → Option ℕ
broken_case u d attribute s field t =
    if not (pairs.have_equal_count s t) then Some 1
    else (if not (pairs.have_equal_arguments s t) then Some 2
    else (if not (pairs.are_of_one_form s t) then Some 3
    else (if not (pairs.has_conforming_result u d s t) then Some 4
    else (if field && not (attribute && pairs.have_equal_results s t) then Some 5 else None))))

-- a fault at the name, about the class of the clause
abbrev pub fault_by : ClassT → NameAt → ParentT → ℕ → Fault
fault_by c n p case = fault_in c n.name code.Vdrd case n.place (type_name p.parent)

abbrev pub faults_beside : List ClassT → ℕ → ClassT → NameAt → Bool → Signature → EntryView → List Fault
faults_beside u d c n attribute s e =
    option_to_list (option_map (fault_by c n e.clause) (broken_case u d attribute s e.is_field e.signature))

-- ---- a name that isn't declared

-- the signature s fits the entry, or the entry lasts
abbrev pub fits_beside : List ClassT → ℕ → Signature → EntryView → Bool
fits_beside u d s e = e.lasts || pairs.fits u d s e.signature

-- each signature is equal to that of the first
abbrev pub have_one_signature : List EntryView → Bool
have_one_signature [] = true
have_one_signature (e ∷ es) = list_all (λ x. pairs.are_equal e.signature x.signature) es

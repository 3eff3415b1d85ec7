-- The rules of a name by its entries: how large its types are, and how entries go together where it isn't declared.
use Rattle.std.specs.Prelude.{ℕ, nat_lt, Bool, true, not, ◌&&◌, if◌then◌else◌, List, [], ◌∷◌, ◌++◌, map, flat_map, Option, Some, None}
use Rattle.std.specs.List.{filter, find, list_all, list_any}
use Rattle.std.specs.Option.{option_map_or, option_to_list}
use Rattle.std.specs.Str.{bytes_eq}
use Rattle.eif_base.specs.declared.code.Code.TheVariants as code
use Rattle.eif_base.specs.declared.fault.Fault.{Fault}
use Rattle.eif_base.specs.declared.limits.TheConstants.{MOST_TYPE_NAMES}
use Rattle.eif_tree.specs.Tree.{ClassT}
use Rattle.eif_classes.specs.Entries.{Feature, is_effective, lasts}
use Rattle.eif_classes.specs.Features.{features}
use Rattle.eif_system.specs.Lineage.{Line, line, cut}
use Rattle.eif_classes.specs.Signatures.{Signature, SignedEntry, signature, signed_entries_in}
use Rattle.eif_classes.specs.Types.{name_count}
use Rattle.eif_rules.specs.FaultForms.{fault_at, fault_where}
use Rattle.eif_feature_rules.specs.RedeclarationRules.{redeclaration_faults}
use Rattle.eif_feature_rules.specs.RuleForms.{DeclaredName, declared_here}
use Rattle.eif_feature_rules.specs.SignaturePairs.{fits, are_equal}

-- a name of a class, with its signature and its entries
pub record SignedName : Type 0 where
  pub feature : Feature
  pub signature : Option Signature
  pub entries : List SignedEntry

-- ---- sizes

-- a type of the signature has too many names
abbrev pub has_large_type : Signature → Bool
has_large_type s = list_any (λ t. nat_lt MOST_TYPE_NAMES (name_count t)) (s.arguments ++ option_to_list s.result)

-- some entry is so
abbrev pub has_large_entry : List SignedEntry → Bool
has_large_entry es = list_any (λ e. has_large_type e.signature) es

-- XLIM.9: a type of an entry's signature, with the clause's actuals put in, has too many names
abbrev pub large_signature : ClassT → SignedName → List Fault
large_signature c x = fault_where (has_large_entry x.entries) (fault_at c code.Xlim 9 c.place x.feature.name)

-- ---- a name that the class c doesn't declare

-- the signature fits each entry that is deferred or undefined
abbrev pub fits_others : List ClassT → ℕ → List SignedEntry → Signature → Bool
fits_others u d es s = list_all (λ e. fits u d s e.signature) (filter (λ e. not (lasts e.entry)) es)

-- VDRD.6: its origin is effective, and its signature doesn't fit an entry that is deferred or undefined
abbrev pub unfit_version : List ClassT → ℕ → ClassT → SignedName → List Fault
unfit_version u d c x =
    fault_where (is_effective x.feature.origin && not (option_map_or (fits_others u d x.entries) x.signature true))
    (fault_at c code.Vdrd 6 c.place x.feature.name)

-- each is equal to the first
abbrev pub agree : List SignedEntry → Bool
agree [] = true
agree (e ∷ es) = list_all (λ x. are_equal e.signature x.signature) es

-- VDJR.1: it has no version, and two entries have unequal signatures
abbrev pub unequal_join : ClassT → SignedName → List Fault
unequal_join c x =
    fault_where (not (is_effective x.feature.origin) && not (agree x.entries))
    (fault_at c code.Vdjr 1 c.place x.feature.name)

-- ---- any name of the class c, which has the number d

-- by its declaration, or else by its entries alone
abbrev pub entry_faults : List ClassT → ℕ → ClassT → SignedName → Option DeclaredName → List Fault
entry_faults u d c x (Some n) = redeclaration_faults u d c n x.entries
entry_faults u d c x None = unfit_version u d c x ++ unequal_join c x

-- the class's declaration of a name
abbrev pub declaration_here : ClassT → List ℕ → Option DeclaredName
declaration_here c n = find (λ x. bytes_eq x.name.name n) (declared_here c)

-- where a type is too large nothing else is judged of the name
abbrev pub signed_name_faults : List ClassT → ℕ → ClassT → SignedName → List Fault
signed_name_faults u d c x =
    if has_large_entry x.entries then large_signature c x
    else entry_faults u d c x (declaration_here c x.feature.name)

-- a name by the line of its class
abbrev pub signed_name : List ClassT → Line → Feature → SignedName
signed_name u l f =
    record { feature = f; signature = signature u l f.name; entries = signed_entries_in u l f.name }

-- in the order of the names
abbrev pub signed_names : List ClassT → Line → List SignedName
signed_names u l = map (signed_name u l) (features l)

-- of each name of the class
abbrev pub join_faults : List ClassT → Line → List Fault
join_faults u (line d c ups) = flat_map (signed_name_faults u d c) (signed_names u (line d c ups))
join_faults u cut = []

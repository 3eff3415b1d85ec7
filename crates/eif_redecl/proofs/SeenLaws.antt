-- What the code keeps of an entry is what counts of it.
use Rattle.std.proofs.Common.{◌≡◌, ℕ, Bool, List, [], ◌∷◌, map, Some, refl, sym, ap, ap₂, ◌∙◌}
use Rattle.std.specs.Prelude.{◌||◌}
use Rattle.std.specs.List.{list_any}
use Rattle.eif_classes.specs.Entries.{Entry, Feature, entry, lasts}
use Rattle.eif_classes.specs.Features.{is_field}
use Rattle.eif_classes.specs.Signatures.{Signature, SignedEntry}
use Rattle.eif_feature_rules.specs.JoinRules.{has_large_entry, has_large_type}
use Rattle.eif_redecl.specs.EntryViews.{EntryView, seen}
use Rattle.eif_tree.specs.Tree.{ParentT}

abbrev viewed : ParentT → Bool → Bool → Signature → EntryView
viewed p field lasting s = record { clause = p; is_field = field; lasts = lasting; signature = s }

pub seen_is : (p : ParentT) (x : Feature) (field lasting : Bool) (s t : Signature) → field ≡ is_field x.origin →
    lasting ≡ lasts (entry p x) → s ≡ t →
    viewed p field lasting s ≡ seen (record { entry = entry p x; signature = t })
seen_is p x field lasting s t f l e =
    ap₂ (λ a b. viewed p a b s) f l ∙ ap (viewed p (is_field x.origin) (lasts (entry p x))) e

pub large_entry : (es : List SignedEntry) →
    list_any (λ (e : EntryView). has_large_type e.signature) (map seen es) ≡ has_large_entry es
large_entry [] = refl
large_entry (e ∷ es) = ap (λ b. has_large_type e.signature || b) (large_entry es)

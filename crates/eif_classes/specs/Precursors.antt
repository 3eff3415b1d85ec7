-- The parent's version that `Precursor` stands for.
use Rattle.std.specs.Prelude.{ℕ, Bool, true, ◌&&◌, List, [], ◌∷◌, Option, Some, None}
use Rattle.std.specs.List.{filter}
use Rattle.std.specs.Option.{option_map_or}
use Rattle.std.specs.Str.{bytes_eq}
use Rattle.eif_classes.specs.Entries.{Entry, lasts}
use Rattle.eif_classes.specs.Names.{is_redefined}
use Rattle.eif_system.specs.WrittenTypes.{type_name}

-- effective, not undefined and redefined; where a parent is named, of a clause of that parent
abbrev pub is_precursor : Option (List ℕ) → Entry → Bool
is_precursor parent e =
    lasts e && is_redefined e.clause e.final
    && option_map_or (bytes_eq (type_name e.clause.parent)) parent true

-- the one item, where there is no other
abbrev pub single : {A : Type 0} → List A → Option A
single (x ∷ []) = Some x
single _ = None

-- of items that tell of the entries of a name: that of the entry of its Precursor, where there is just one
abbrev pub precursor : {A : Type 0} → (A → Entry) → Option (List ℕ) → List A → Option A
precursor entry_of parent xs = single (filter (λ x. is_precursor parent (entry_of x)) xs)

-- What a row of texts is read as.
use Rattle.std.specs.Prelude.{◌≡◌, ℕ, ◌+◌, List, [], ◌∷◌, length, map, Some, Result, Ok, Err, slice_get}
use Rattle.eif_base.specs.declared.Fault.{Fault}
use Rattle.eif_tree.specs.Tree.{ClassT}
use Rattle.eif_tree.specs.View.{class_view}
use Rattle.eif_check.specs.TextFaults.{TextGives}
use Rattle.eif_check.specs.declared.texts.Parsed.{Parsed}

-- what each text is, where the first of them is that of the file with the first number
pub record AreReadings (first : ℕ) (texts : List (List ℕ)) (readings : List (Result ClassT Fault)) : Type 0 where
  pub long : length readings ≡ length texts
  pub each : (i : ℕ) (text : List ℕ) (r : Result ClassT Fault) → slice_get texts i ≡ Some text
      → slice_get readings i ≡ Some r → TextGives (first + i) text r

abbrev pub classes_in : List (Result ClassT Fault) → List ClassT
classes_in [] = []
classes_in (Ok c ∷ rest) = c ∷ classes_in rest
classes_in (Err f ∷ rest) = classes_in rest

abbrev pub faults_in : List (Result ClassT Fault) → List Fault
faults_in [] = []
faults_in (Ok c ∷ rest) = faults_in rest
faults_in (Err f ∷ rest) = f ∷ faults_in rest

-- the classes of the texts that are classes, and the faults of the others
pub record IsParsed (first : ℕ) (texts : List (List ℕ)) (p : Parsed) : Type 0 where
  pub readings : List (Result ClassT Fault)
  pub are_readings : AreReadings first texts readings
  pub trees_are : map class_view p.trees.items ≡ classes_in readings
  pub faults_are : p.faults ≡ faults_in readings

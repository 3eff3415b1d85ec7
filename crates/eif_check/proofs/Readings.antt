-- Rows of readings, put together.
use Rattle.std.proofs.Common.{◌≡◌, ℕ, zero, suc, ◌+◌, ◌-◌, ◌<◌, ◌≤◌, List, [], ◌∷◌, ◌++◌, length, map, take, Some, Result, Ok, Err, refl, sym, ap, ap₂, subst, ◌∙◌, arith, append_assoc, length-append}
use Rattle.std.proofs.lemmas.List.{append-nil, length-take-le, map-append, take_all}
use Rattle.std.proofs.lemmas.Option.{slice_get_within}
use Rattle.std.proofs.lemmas.List.Concat.{flat_map-append}
use Rattle.std.specs.Prelude.{IfOk, min, slice_get, slice_range}
use Rattle.std.specs.List.{flat_map}
use Rattle.eif_base.specs.declared.Fault.{Fault}
use Rattle.eif_base.specs.declared.Memory.{Memory}
use Rattle.eif_par.specs.Pieces.{ArePieces}
use Rattle.eif_par.proofs.Fronts.{all_pieces, length-range, range_next}
use Rattle.eif_par.proofs.Joins.{take_range}
use Rattle.eif_tree.specs.Tree.{ClassT}
use Rattle.eif_tree.specs.View.{class_view}
use Rattle.eif_tree.specs.declared.ClassTree.{ClassTree}
use Rattle.eif_check.specs.Parsed.{AreReadings, IsParsed, classes_in, faults_in}
use Rattle.eif_check.specs.TextFaults.{TextGives}
use Rattle.eif_check.specs.TextReads.{AddsText, HasAdded}
use Rattle.eif_check.specs.declared.texts.Parsed.{Parsed}

-- what a row of texts is, as plain lists
record Row (first : ℕ) (texts : List (List ℕ)) (classes : List ClassT) (faults : List Fault) : Type 0 where
  readings : List (Result ClassT Fault)
  are_readings : AreReadings first texts readings
  classes_are : classes ≡ classes_in readings
  faults_are : faults ≡ faults_in readings

row_of : (first : ℕ) (texts : List (List ℕ)) (p : Parsed) → IsParsed first texts p →
    Row first texts (map class_view p.trees.items) p.faults
row_of first texts p h = record {
  readings = h.readings;
  are_readings = h.are_readings;
  classes_are = h.trees_are;
  faults_are = h.faults_are;
}

parsed_of : (first : ℕ) (texts : List (List ℕ)) (classes : List ClassT) (faults : List Fault) (p : Parsed) →
    map class_view p.trees.items ≡ classes → p.faults ≡ faults → Row first texts classes faults → IsParsed first texts p
parsed_of first texts classes faults p trees_are faults_are row = record {
  readings = row.readings;
  are_readings = row.are_readings;
  trees_are = trees_are ∙ row.classes_are;
  faults_are = faults_are ∙ row.faults_are;
}

row_none : (first : ℕ) → Row first [] [] []
row_none first = record {
  readings = [];
  are_readings = record { long = refl; each = λ i text r e h. cc };
  classes_are = refl;
  faults_are = refl;
}

row_one : (n : ℕ) (text : List ℕ) (r : Result ClassT Fault) → TextGives n text r →
    Row n (text ∷ []) (classes_in (r ∷ [])) (faults_in (r ∷ []))
row_one n text r gives = record {
  readings = r ∷ [];
  are_readings = record { long = refl; each = one };
  classes_are = refl;
  faults_are = refl;
}
  where
    one : (i : ℕ) (t : List ℕ) (s : Result ClassT Fault) → slice_get (text ∷ []) i ≡ Some t →
        slice_get (r ∷ []) i ≡ Some s → TextGives (n + i) t s
    one zero t s e h =
        let here : n ≡ n + 0 = omega arith in
        let same : text ≡ t = cc in
        let also : r ≡ s = cc in
        subst (λ k. TextGives k t s) here
        (subst (λ t. TextGives n t s) same (subst (λ s. TextGives n text s) also gives))
    one (suc i) t s e h = cc

-- what is true of the pairs of two rows is true of those of both, one after the other
both : {A B : Type 0} (J : ℕ → A → B → Type 0) (xs ys : List A) (rs ss : List B) → length rs ≡ length xs →
    ((i : ℕ) (x : A) (r : B) → slice_get xs i ≡ Some x → slice_get rs i ≡ Some r → J i x r) →
    ((i : ℕ) (y : A) (s : B) → slice_get ys i ≡ Some y → slice_get ss i ≡ Some s → J (length xs + i) y s) →
    (i : ℕ) (x : A) (r : B) → slice_get (xs ++ ys) i ≡ Some x → slice_get (rs ++ ss) i ≡ Some r → J i x r
both J [] ys [] ss long a b i x r e h = let z : 0 + i ≡ i = omega arith in subst (λ k. J k x r) z (b i x r e h)
both J [] ys (r ∷ rs) ss long a b i x s e h = absurd (omega arith)
both J (x ∷ xs) ys [] ss long a b i z r e h = absurd (omega arith)
both J (x ∷ xs) ys (r ∷ rs) ss long a b zero z s e h = a zero z s e h
both J (x ∷ xs) ys (r ∷ rs) ss long a b (suc i) z s e h =
    both (λ k. J (suc k)) xs ys rs ss (omega arith) (λ k. a (suc k))
    (λ k y s at_y at_s. let n : length (x ∷ xs) + k ≡ suc (length xs + k) = omega arith in
    subst (λ m. J m y s) n (b k y s at_y at_s))
    i z s e h

classes_in-append : (rs ss : List (Result ClassT Fault)) → classes_in (rs ++ ss) ≡ classes_in rs ++ classes_in ss
classes_in-append [] ss = refl
classes_in-append (Ok c ∷ rs) ss = ap (λ cs. c ∷ cs) (classes_in-append rs ss)
classes_in-append (Err f ∷ rs) ss = classes_in-append rs ss

faults_in-append : (rs ss : List (Result ClassT Fault)) → faults_in (rs ++ ss) ≡ faults_in rs ++ faults_in ss
faults_in-append [] ss = refl
faults_in-append (Ok c ∷ rs) ss = faults_in-append rs ss
faults_in-append (Err f ∷ rs) ss = ap (λ fs. f ∷ fs) (faults_in-append rs ss)

row_append : (first : ℕ) (xs ys : List (List ℕ)) (cs ds : List ClassT) (fs gs : List Fault) →
    Row first xs cs fs → Row (first + length xs) ys ds gs → Row first (xs ++ ys) (cs ++ ds) (fs ++ gs)
row_append first xs ys cs ds fs gs a b = record {
  readings = a.readings ++ b.readings;
  are_readings = record {
    long = length-append a.readings b.readings ∙ ap₂ ◌+◌ a.are_readings.long b.are_readings.long
        ∙ sym (length-append xs ys);
    each = both (λ i text r. TextGives (first + i) text r) xs ys a.readings b.readings a.are_readings.long
        a.are_readings.each
        (λ i text r at_text at_r. let n : first + length xs + i ≡ first + (length xs + i) = omega arith in
        subst (λ k. TextGives k text r) n (b.are_readings.each i text r at_text at_r));
  };
  classes_are = ap₂ ◌++◌ a.classes_are b.classes_are ∙ sym (classes_in-append a.readings b.readings);
  faults_are = ap₂ ◌++◌ a.faults_are b.faults_are ∙ sym (faults_in-append a.readings b.readings);
}

-- ---- the files of a piece

-- one more text
added : (first : ℕ) (texts : List (List ℕ)) (text : List ℕ) (p q : Parsed) (r : Result ClassT Fault) →
    TextGives (first + length texts) text r → HasAdded r p q → IsParsed first texts p →
    IsParsed first (texts ++ text ∷ []) q
added first texts text p q (Ok c) gives adds h =
    let classes = map class_view p.trees.items in
    parsed_of first (texts ++ text ∷ []) (classes ++ c ∷ []) (p.faults ++ []) q adds.0
    (adds.1 ∙ sym (append-nil p.faults))
    (row_append first texts (text ∷ []) classes (c ∷ []) p.faults [] (row_of first texts p h)
    (row_one (first + length texts) text (Ok c) gives))
added first texts text p q (Err f) gives adds h =
    let classes = map class_view p.trees.items in
    parsed_of first (texts ++ text ∷ []) (classes ++ []) (p.faults ++ f ∷ []) q
    (adds.0 ∙ sym (append-nil classes)) adds.1
    (row_append first texts (text ∷ []) classes [] p.faults (f ∷ []) (row_of first texts p h)
    (row_one (first + length texts) text (Err f) gives))

pub goes_on : (first file : ℕ) (texts : List (List ℕ)) (text : List ℕ) (p q : Parsed) → first ≤ file →
    slice_get texts file ≡ Some text → AddsText file text p q → IsParsed first (slice_range texts first file) p →
    IsParsed first (slice_range texts first (file + 1)) q
goes_on first file texts text p q le at adds h =
    let range = slice_range texts first file in
    let within = slice_get_within texts file text at in
    let long = length-range texts first file (omega arith) in
    let here : file ≡ first + length range = omega arith in
    subst (λ xs. IsParsed first xs q) (sym (range_next texts first file text le at))
    (added first range text p q adds.0 (subst (λ k. TextGives k text adds.0) here adds.1) adds.2 h)

-- ---- the pieces

abbrev classes_of : Parsed → List ClassT
classes_of p = map class_view p.trees.items

abbrev faults_of : Parsed → List Fault
faults_of p = p.faults

-- what the first texts are, of so many pieces
abbrev FrontIs : List (List ℕ) → ℕ → List Parsed → Type 0
FrontIs texts n front = Row 0 (take n texts) (flat_map classes_of front) (flat_map faults_of front)

-- what a piece of the texts is
abbrev pub PieceIs : List (List ℕ) → ℕ → ℕ → Parsed → Type 0
PieceIs texts first past piece = IsParsed first (slice_range texts first past) piece

map-flat_map : (ps : List Parsed) → map class_view (flat_map (λ p. p.trees.items) ps) ≡ flat_map classes_of ps
map-flat_map [] = refl
map-flat_map (p ∷ ps) =
    map-append class_view p.trees.items (flat_map (λ p. p.trees.items) ps)
    ∙ ap (λ cs. classes_of p ++ cs) (map-flat_map ps)

flat_map-one : {A : Type 0} (f : Parsed → List A) (front : List Parsed) (piece : Parsed) →
    flat_map f (front ++ piece ∷ []) ≡ flat_map f front ++ f piece
flat_map-one f front piece =
    flat_map-append f front (piece ∷ []) ∙ ap (λ xs. flat_map f front ++ xs) (append-nil (f piece))

-- one more piece
next_piece : (texts : List (List ℕ)) (first past : ℕ) (front : List Parsed) (piece : Parsed) → first ≤ past →
    past ≤ length texts → FrontIs texts first front → PieceIs texts first past piece →
    FrontIs texts past (front ++ piece ∷ [])
next_piece texts first past front piece le within row h =
    let range = slice_range texts first past in
    let long : length (take first texts) ≡ first = length-take-le first texts (omega arith) in
    let here : first ≡ 0 + length (take first texts) = omega arith in
    let whole = row_append 0 (take first texts) range (flat_map classes_of front) (classes_of piece)
    (flat_map faults_of front) piece.faults row
    (subst (λ k. Row k range (classes_of piece) piece.faults) here (row_of first range piece h)) in
    rw (take_range texts first past le, flat_map-one classes_of front piece, flat_map-one faults_of front piece) whole

-- all pieces together
all_parsed : (texts : List (List ℕ)) (workers : ℕ) (pieces : List Parsed) (whole : Parsed) → 1 ≤ workers →
    ArePieces (PieceIs texts) (length texts) (min workers (length texts)) pieces →
    whole.trees.items ≡ flat_map (λ p. p.trees.items) pieces → whole.faults ≡ flat_map faults_of pieces →
    IsParsed 0 texts whole
all_parsed texts workers pieces whole some are trees_are faults_are =
    let row : FrontIs texts (length texts) pieces =
    all_pieces (PieceIs texts) (FrontIs texts) (length texts) pieces (row_none 0) (next_piece texts) workers some are in
    subst (λ xs. IsParsed 0 xs whole) (take_all (length texts) texts (omega arith))
    (parsed_of 0 (take (length texts) texts) (flat_map classes_of pieces) (flat_map faults_of pieces) whole
    (ap (map class_view) trees_are ∙ map-flat_map pieces) faults_are row)

pub if_parsed : (texts : List (List ℕ)) (workers count : ℕ) (pieces : List Parsed) (r : Result Parsed Memory) →
    1 ≤ workers → count ≡ length texts → ArePieces (PieceIs texts) count (min workers count) pieces →
    IfOk r (λ p. p.trees.items ≡ flat_map (λ q. q.trees.items) pieces) →
    IfOk r (λ p. p.faults ≡ flat_map (λ q. q.faults) pieces) → IfOk r (IsParsed 0 texts)
if_parsed texts workers count pieces (Err e) some count_is are trees faults = tt
if_parsed texts workers count pieces (Ok whole) some count_is are trees_are faults_are =
    all_parsed texts workers pieces whole some
    (subst (λ n. ArePieces (PieceIs texts) n (min workers n) pieces) count_is are) trees_are faults_are

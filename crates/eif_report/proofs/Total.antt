-- The order of faults is total, and faults that are equal by it are one fault.
use Rattle.std.proofs.Common.{◌≡◌, ℕ, List, [], ◌∷◌, Option, Some, None, refl, sym}
use Rattle.std.specs.declared.cmp.Ordering.{Ordering}
use Rattle.std.specs.declared.cmp.Ordering.TheVariants.{Less, Equal, Greater}
use Rattle.std.specs.Ordering.{nat_cmp, ordering_then, ordering_reverse}
use Rattle.std.specs.Cmp.{IsTotalOrder}
use Rattle.std.specs.Cmp.Lexicographic.{slice_cmp}
use Rattle.std.proofs.lemmas.Cmp.{nat_cmp_total, nat_list_cmp_total, on_total, then_total, ranked}
use Rattle.eif_base.specs.declared.Fault.{Fault}
use Rattle.eif_base.specs.declared.Place.{Place}
use Rattle.eif_base.specs.Codes.{code_text}
use Rattle.eif_report.specs.Order.{file_name, file_cmp, place_cmp, line_cmp, fault_cmp}
use Rattle.eif_report.proofs.CodeTexts.{code_text-one}

file_cmp_antisymm : (a b : Option (List ℕ)) → file_cmp a b ≡ ordering_reverse (file_cmp b a)
file_cmp_antisymm None None = refl
file_cmp_antisymm None (Some b) = refl
file_cmp_antisymm (Some a) None = refl
file_cmp_antisymm (Some a) (Some b) = nat_list_cmp_total.antisymm a b

file_cmp_trans : (a b c : Option (List ℕ)) → file_cmp a b ≡ Less → file_cmp b c ≡ Less → file_cmp a c ≡ Less
file_cmp_trans None None c p q = absurd (cc)
file_cmp_trans None (Some b) None p q = absurd (cc)
file_cmp_trans None (Some b) (Some c) p q = refl
file_cmp_trans (Some a) None c p q = absurd (cc)
file_cmp_trans (Some a) (Some b) None p q = absurd (cc)
file_cmp_trans (Some a) (Some b) (Some c) p q = nat_list_cmp_total.trans a b c p q

file_cmp_congr : (a b c : Option (List ℕ)) → file_cmp a b ≡ Equal → file_cmp a c ≡ file_cmp b c
file_cmp_congr None None c p = refl
file_cmp_congr None (Some b) c p = absurd (cc)
file_cmp_congr (Some a) None c p = absurd (cc)
file_cmp_congr (Some a) (Some b) None p = refl
file_cmp_congr (Some a) (Some b) (Some c) p = nat_list_cmp_total.congr a b c p

file_cmp_total : IsTotalOrder file_cmp
file_cmp_total = record { antisymm = file_cmp_antisymm; trans = file_cmp_trans; congr = file_cmp_congr }

place_cmp_total : IsTotalOrder place_cmp
place_cmp_total =
    then_total (on_total (λ (p : Place). p.file) nat_cmp_total)
    (then_total (on_total (λ (p : Place). p.offset) nat_cmp_total)
    (then_total (on_total (λ (p : Place). p.line) nat_cmp_total) (on_total (λ (p : Place). p.column) nat_cmp_total)))

module _ (names : List (List ℕ)) where
  pub line_cmp_total : IsTotalOrder (line_cmp names)
  line_cmp_total =
      then_total (on_total (λ (f : Fault). file_name names f.place.file) file_cmp_total)
      (then_total (on_total (λ (f : Fault). f.place) place_cmp_total)
      (then_total (on_total (λ (f : Fault). code_text f.code) nat_list_cmp_total)
      (then_total (on_total (λ (f : Fault). f.class) nat_list_cmp_total)
      (then_total (on_total (λ (f : Fault). f.feature) nat_list_cmp_total)
      (on_total (λ (f : Fault). f.about) nat_list_cmp_total)))))

  pub fault_cmp_total : IsTotalOrder (fault_cmp names)
  fault_cmp_total = then_total line_cmp_total (on_total (λ (f : Fault). f.case) nat_cmp_total)

then_equal : (a b : Ordering) → ordering_then a b ≡ Equal → (a ≡ Equal) × (b ≡ Equal)
then_equal Less b e = absurd (cc)
then_equal Equal b e = (refl, e)
then_equal Greater b e = absurd (cc)

nat_cmp_equal : (a b : ℕ) → nat_cmp a b ≡ Equal → a ≡ b
nat_cmp_equal a b e = ranked a b Equal (sym e)

pub slice_cmp_equal : (a b : List ℕ) → slice_cmp nat_cmp a b ≡ Equal → a ≡ b
slice_cmp_equal [] [] e = refl
slice_cmp_equal [] (y ∷ ys) e = absurd (cc)
slice_cmp_equal (x ∷ xs) [] e = absurd (cc)
slice_cmp_equal (x ∷ xs) (y ∷ ys) e =
    let h = then_equal (nat_cmp x y) (slice_cmp nat_cmp xs ys) e in
    cc (nat_cmp_equal x y h.0, slice_cmp_equal xs ys h.1)

place_cmp_equal : (a b : Place) → place_cmp a b ≡ Equal → a ≡ b
place_cmp_equal a b e =
    let file = then_equal (nat_cmp a.file b.file) _ e in
    let offset = then_equal (nat_cmp a.offset b.offset) _ file.1 in
    let line = then_equal (nat_cmp a.line b.line) _ offset.1 in
    λ i. record {
      file = nat_cmp_equal a.file b.file file.0 i;
      offset = nat_cmp_equal a.offset b.offset offset.0 i;
      line = nat_cmp_equal a.line b.line line.0 i;
      column = nat_cmp_equal a.column b.column line.1 i;
    }

pub fault_cmp_equal : (names : List (List ℕ)) (a b : Fault) → fault_cmp names a b ≡ Equal → a ≡ b
fault_cmp_equal names a b e =
    let case = then_equal (line_cmp names a b) (nat_cmp a.case b.case) e in
    let file = then_equal (file_cmp (file_name names a.place.file) (file_name names b.place.file)) _ case.0 in
    let place = then_equal (place_cmp a.place b.place) _ file.1 in
    let code = then_equal (slice_cmp nat_cmp (code_text a.code) (code_text b.code)) _ place.1 in
    let class = then_equal (slice_cmp nat_cmp a.class b.class) _ code.1 in
    let feature = then_equal (slice_cmp nat_cmp a.feature b.feature) _ class.1 in
    let text = slice_cmp_equal (code_text a.code) (code_text b.code) code.0 in
    λ i. record {
      code = code_text-one a.code b.code text i;
      case = nat_cmp_equal a.case b.case case.1 i;
      class = slice_cmp_equal a.class b.class class.0 i;
      feature = slice_cmp_equal a.feature b.feature feature.0 i;
      place = place_cmp_equal a.place b.place place.0 i;
      about = slice_cmp_equal a.about b.about feature.1 i;
    }

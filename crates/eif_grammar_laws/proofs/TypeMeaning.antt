-- A rule for types finds no more than its goal means.
use Rattle.std.proofs.Common.{◌≡◌, ℕ, ◌≤◌, List, ◌∷◌, refl, ap, subst, arith, inl, inr}
use Rattle.eif_base.specs.declared.Place.{Place}
use Rattle.eif_tree.specs.declared.Mark.{Mark}
use Rattle.eif_tree.specs.declared.Mark.TheVariants.{Attached, Detachable}
use Rattle.eif_tree.specs.Tree.{TypeT, Types, type_at}
use Rattle.eif_tree.specs.Height.{type_height}
use Rattle.eif_grammar.specs.declared.terminal.Terminal.{Terminal}
use Rattle.eif_grammar.specs.declared.terminal.Terminal.TheVariants as t
use Rattle.eif_grammar.specs.Tokens.{Token}
use Rattle.eif_grammar.specs.Spelling.{head}
use Rattle.eif_grammar.specs.SpelledTypes.{spells_mark}
use Rattle.eif_grammar.specs.Goals.{TypeGoal, TypeFound, written, unmarked, actuals, more_types}
use Rattle.eif_grammar.specs.TypeRules.{TypeStart, with_mark, with_name, no_type, type_start, written_by, type_rule}
use Rattle.eif_grammar_laws.proofs.Readers.{Meanings, Means}
use Rattle.eif_grammar_laws.proofs.Meanings.{TypeMeans}
use Rattle.eif_grammar_laws.proofs.Meant.{ExpressionsMeant, seen, the_here, the_at_here, name_here, tested_is, tested_other, room_below}

pub type_height_some : (ty : TypeT) → 1 ≤ type_height ty
type_height_some (type_at p q m n us) = omega arith

-- ---- how a type begins

-- the tokens of a mark
pub data MarkToken : Terminal → Mark → Type 0 where
  question : MarkToken t.Question Detachable
  detachable : MarkToken t.Detachable Detachable
  exclamation : MarkToken t.Exclamation Attached
  attached : MarkToken t.Attached Attached

pub mark_token : (x : Terminal) (m : Mark) → type_start x ≡ with_mark m → MarkToken x m
mark_token t.Question m e = let same : Detachable ≡ m = cc in subst (λ k. MarkToken t.Question k) same question
mark_token t.Detachable m e = let same : Detachable ≡ m = cc in subst (λ k. MarkToken t.Detachable k) same detachable
mark_token t.Exclamation m e = let same : Attached ≡ m = cc in subst (λ k. MarkToken t.Exclamation k) same exclamation
mark_token t.Attached m e = let same : Attached ≡ m = cc in subst (λ k. MarkToken t.Attached k) same attached
mark_token _ m e = cc

pub name_starts : (x : Terminal) → type_start x ≡ with_name → x ≡ t.Identifier
name_starts t.Identifier e = refl
name_starts _ e = cc

mark_spelled : {x : Terminal} {m : Mark} {n : Token} {ts more : List Token} → MarkToken x m → (q : Place) → (n.terminal ≡ x) × (ts ≡ n ∷ more) → spells_mark m n.place q ts more
mark_spelled question q s = inl (the_at_here s)
mark_spelled detachable q s = inr (the_at_here s)
mark_spelled exclamation q s = inl (the_at_here s)
mark_spelled attached q s = inr (the_at_here s)

module _ (M : Meanings) (meant : ExpressionsMeant M) where
  form_written : (room : ℕ) (ty : TypeT) (ts rest : List Token) (s : TypeStart) → type_start (head ts) ≡ s → Means M (written_by room s) ty ts rest
      → TypeMeans (written room) ty ts rest
  form_written room ty ts rest (with_mark m) found (k, more, eq, (n, mid, mn, (us, mid', mu, (it, end)))) some =
      let a = meant.types mu some in
      rw (← it, ← end) ((more, mark_spelled (mark_token (head ts) m found) n.place (seen refl eq), (mid, name_here (meant.tokens mn), a.0)), a.1)
  form_written room ty ts rest with_name found (n, more, eq, (us, mid, mu, (it, end))) some =
      let a = meant.types mu some in
      rw (← it, ← end) ((ts, (refl, refl), (more, name_here (seen (name_starts (head ts) found) eq), a.0)), a.1)
  form_written room ty ts rest no_type found m some = absurd m

  form_unmarked : (room : ℕ) (ty : TypeT) (ts rest : List Token) → Means M (type_rule (unmarked room)) ty ts rest → TypeMeans (unmarked room) ty ts rest
  form_unmarked room ty ts rest (n, more, mn, (us, mid, mu, (it, end))) some =
      let a = meant.types mu some in
      rw (← it, ← end) ((ts, (refl, refl), (ts, (refl, refl), (more, name_here (meant.tokens mn), a.0))), a.1)

  form_actuals : (room : ℕ) (us : Types) (ts rest : List Token) → Means M (type_rule (actuals room)) us ts rest → TypeMeans (actuals room) us ts rest
  form_actuals room us ts rest (y, found, inl (same, (lower, (n, more, eq, (ty, mid, mt, (tys, mid', mu, (c, mid'', mc, (it, end)))))))) some =
      let low = room_below 1 room lower in
      let a = meant.types mt (omega arith) in
      let b = meant.types mu (omega arith) in
      rw (← it, ← end) ((more, the_here (seen (tested_is ts t.OpenBracket y found same) eq), (mid, a.0, (mid', b.0, the_here (meant.tokens mc)))), omega (arith, a.1, b.1))
  form_actuals room us ts rest (y, found, inr (other, (it, end))) some = rw (← it, ← end) (tested_other ts t.OpenBracket y found other, some)

  form_more : (room : ℕ) (us : Types) (ts rest : List Token) → Means M (type_rule (more_types room)) us ts rest → TypeMeans (more_types room) us ts rest
  form_more room us ts rest (y, found, inl (same, (n, more, eq, (ty, mid, mt, (tys, mid', mu, (it, end)))))) some =
      let a = meant.types mt some in
      let b = meant.types mu some in
      rw (← it, ← end) ((more, the_here (seen (tested_is ts t.Comma y found same) eq), (mid, a.0, b.0)), omega (arith, a.1, b.1))
  form_more room us ts rest (y, found, inr (other, (it, end))) some = rw (← it, ← end) (tested_other ts t.Comma y found other, omega arith)

  pub type_forms : (g : TypeGoal) (a : TypeFound g) (ts rest : List Token) → Means M (type_rule g) a ts rest → TypeMeans g a ts rest
  type_forms (written room) ty ts rest m = form_written room ty ts rest (type_start m.0) (ap type_start m.1) m.2
  type_forms (unmarked room) us ts rest m = form_unmarked room us ts rest m
  type_forms (actuals room) us ts rest m = form_actuals room us ts rest m
  type_forms (more_types room) us ts rest m = form_more room us ts rest m

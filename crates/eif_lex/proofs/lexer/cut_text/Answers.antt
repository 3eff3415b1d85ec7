use Rattle.std.proofs.Common.{◌≡◌, ℕ, ◌+◌, ◌-◌, ◌<◌, ◌≤◌, ◌++◌, [], Some, length-drop, length-append, drop, take, length, map, fold, ap, sym, ◌∙◌, arith, subst, zero-add}
use Rattle.std.specs.List.{All}
use Rattle.std.proofs.lemmas.Grind.{common_steps}
use Rattle.std.proofs.lemmas.List.{drop-drop, map-append}
use Rattle.std.proofs.lemmas.List.Elements.{All-nil, All-append}
use Rattle.std.proofs.lemmas.List.Sums.{fold-append}
use Rattle.eif_base.specs.declared.place.Place.{Place}
use Rattle.eif_grammar.specs.Lexemes.{piece}
use Rattle.eif_grammar.specs.Places.{behind, step, place_at}
use Rattle.eif_grammar.specs.Tokens.{joined, cut, tokens_by, mark_length}
use Rattle.eif_lex.specs.declared.spot.Spot.{Spot}
use Rattle.eif_lex.specs.Spots.{token_at, spots_of, IsSmall}
use Rattle.eif_lex.proofs.Cuts.{joined-nil, joined-joined, cut_skip, cut_piece, cut_stuck, take_add, at_some, tokens_at, spots_within, spots_small, spots_few}
use Rattle.eif_lex.proofs.SmallIntegers.{IsSmallIn, piece_small}
use Rattle.eif_lex.proofs.lexer.cut_text.Goals as goal

pub pieces-init : goal.pieces-init
pieces-init c =
    let m = c.mark_length-at.result in let text = c.args.text.now in let file = c.args.file in let spots = c.new-spots.result.items in
    let none : spots ≡ [] = c.new-spots.ensures.items in
    let mark : m ≡ mark_length text = c.mark_length-at.ensures.value in
    let within : m ≤ length text = c.mark_length-at.ensures.within in
    let front = c.front.ensures in
    let moved : c.advance-line.result ≡ behind (take m text) = c.advance-line.ensures.value ∙ ap behind front in
    let size : length (take m text) ≡ m = grind (arith, common_steps) in
    let long : length c.front.result.now ≡ m = ap length front ∙ size in
    record {
      within = within;
      place = moved;
      line = omega (arith, c.advance-line.ensures.line_low, long);
      column = omega (arith, c.advance-line.ensures.column_low, long);
      cuts = ap (λ l. joined (map (token_at text) l) (cut file text 0 m (drop m text))) none
          ∙ joined-nil (cut file text 0 m (drop m text)) ∙ ap (λ k. cut file text 0 k (drop m text)) (sym (zero-add m)) ∙ sym (cut_skip file text m 0 text within) ∙ ap (λ k. cut file text k 0 text) mark;
      spots_within = subst (All (λ (s : Spot). s.place.offset + s.len ≤ length text)) (sym none) (All-nil (λ (s : Spot). s.place.offset + s.len ≤ length text));
      small = subst (All (λ (s : Spot). IsSmall (token_at text s))) (sym none) (All-nil (λ (s : Spot). IsSmall (token_at text s)));
      few = let no : length spots ≡ 0 = ap length none in omega (arith, no);
    }

pub returns-in_default-clause-exact : goal.returns-in_default-clause-exact
returns-in_default-clause-exact c =
    let at = c.pieces.at in let text = c.args.text.now in let file = c.args.file in let ts = drop at text in
    let whole : take (length text - at) ts ≡ ts = grind (arith, common_steps) in
    let none = ap piece (sym whole) ∙ sym c.first_piece.ensures.value ∙ c.in_default.is in
    let some : 0 < length ts = omega (arith, length-drop at text) in (
      sym c.pieces.invariant.cuts ∙ ap (joined (map (token_at text) c.pieces.spots.items)) (cut_stuck file text at ts none some),
      ap (λ (q : ℕ × ℕ). record { file = file; offset = at; line = q.0; column = q.1 }) c.pieces.invariant.place,
    )

pub pieces-preserved : goal.pieces-preserved
pieces-preserved c =
    let p = c.in-Some.piece in let at = c.pieces.at in let n = p.len in let text = c.args.text.now in let file = c.args.file in let ts = drop at text in
    let old = c.pieces.spots.items in let now = c.push_piece.new.spots.items in
    let whole : take (length text - at) ts ≡ ts = grind (arith, common_steps) in
    let found : piece ts ≡ Some p = ap piece (sym whole) ∙ sym c.first_piece.ensures.value ∙ c.in-Some.is in
    let some : 0 < n = c.in-Some.ensures.some in
    let room : n ≤ length ts = rw whole at c.in-Some.ensures.within in
    let all : length ts + at ≡ length text = omega (arith, length-drop at text) in
    let width : at + n - at ≡ n = omega arith in
    let moved : c.advance.result ≡ fold step (c.pieces.line, c.pieces.column) (take n ts) = rw width at c.advance.ensures.value in
    let place_now : behind (take (at + n) text) ≡ c.advance.result =
    ap behind (take_add at n text) ∙ fold-append step (1, 1) (take at text) (take n ts) ∙ ap (λ q. fold step q (take n ts)) (sym c.pieces.invariant.place) ∙ sym moved in
    let size : length (take n ts) ≡ n = grind (arith, common_steps) in
    let place = place_at file text at in
    let here : ◌≡◌ {A = Place} (record { file = file; offset = at; line = c.pieces.line; column = c.pieces.column }) place =
    ap (λ (q : ℕ × ℕ). record { file = file; offset = at; line = q.0; column = q.1 }) c.pieces.invariant.place in
    let one = spots_of p.terminal place n in
    let pushed : now ≡ old ++ one = rw (← here) c.in_ok-push_piece.ensures in
    let rest = cut file text 0 (at + n) (drop (at + n) text) in
    let mapped : map (token_at text) now ≡ map (token_at text) old ++ tokens_by file text p.terminal n at ts =
    ap (map (token_at text)) pushed ∙ map-append (token_at text) old one ∙ ap (λ l. map (token_at text) old ++ l) (tokens_at file text at n p.terminal) in
    let step_by = cut_piece file text at ts p found some room ∙ ap (λ l. joined (tokens_by file text p.terminal n at ts) (cut file text 0 (at + n) l)) (drop-drop n at text) in
    let longer : length now ≡ length old + length one = ap length pushed ∙ length-append old one in
    record {
      within = omega (arith, all);
      place = sym place_now;
      line = omega (arith, c.advance.ensures.line_low, c.pieces.invariant.line, size, width);
      column = omega (arith, c.advance.ensures.column_low, c.pieces.invariant.column, size, width);
      cuts = ap (λ l. joined l rest) mapped
          ∙ sym (joined-joined (map (token_at text) old) (tokens_by file text p.terminal n at ts) rest)
          ∙ ap (joined (map (token_at text) old)) (sym step_by)
          ∙ c.pieces.invariant.cuts;
      spots_within = subst (All (λ (s : Spot). s.place.offset + s.len ≤ length text)) (sym pushed)
          (All-append (λ (s : Spot). s.place.offset + s.len ≤ length text) old one c.pieces.invariant.spots_within (spots_within text place n p.terminal (omega (arith, all))));
      small = subst (All (λ (s : Spot). IsSmall (token_at text s))) (sym pushed)
          (All-append (λ (s : Spot). IsSmall (token_at text s)) old one c.pieces.invariant.small
          (spots_small text place n p.terminal (at_some (IsSmallIn ts) found (piece_small ts))));
      few = omega (arith, longer, c.pieces.invariant.few, spots_few place n p.terminal);
    }

-- How calls begin, and that none is taken for the target of an assignment.
use Rattle.std.proofs.Common.{◌≡◌, ◌≢◌, ◌≤◌, true, List, ◌∷◌, refl, arith}
use Rattle.eif_tree.specs.Tree.{Ex, Exs, current_value, result_value, unqualified, precursor, qualified, no_exs, and_ex}
use Rattle.eif_tree.specs.Height.{height}
use Rattle.eif_grammar.specs.declared.terminal.Terminal.{Terminal}
use Rattle.eif_grammar.specs.declared.terminal.Terminal.TheVariants as t
use Rattle.eif_grammar.specs.Tokens.{Token}
use Rattle.eif_grammar.specs.Forms.{target_level}
use Rattle.eif_grammar.specs.Spelling.{head}
use Rattle.eif_grammar.specs.SpelledExpressions.{spells, spells_arguments}
use Rattle.eif_grammar.specs.SpelledInstructions.{begins_calls, is_call, no_assignment}
use Rattle.eif_grammar_laws.proofs.Taken.{head_the, head_at, head_name}
use Rattle.eif_grammar_laws.proofs.Levels.{height_some}

-- the token with which a chain of calls begins
pub data CallStart (x : Terminal) : Type 0 where
  with_name : x ≡ t.Identifier → CallStart x
  with_precursor : x ≡ t.Precursor → CallStart x
  with_current : x ≡ t.Current → CallStart x
  with_result : x ≡ t.Result → CallStart x

chain_starts : (e : Ex) (ts mid : List Token) → begins_calls e ≡ true → spells e target_level ts mid → CallStart (head ts)
chain_starts (current_value p) ts mid is s = with_current (head_at t.Current p ts mid s.0)
chain_starts (result_value p) ts mid is s = with_result (head_at t.Result p ts mid s.0)
chain_starts (unqualified p n args) ts mid is s = with_name (head_name p n ts s.0.0 s.0.1)
chain_starts (precursor p n args) ts mid is s = with_precursor (head_at t.Precursor p ts s.0.0 s.0.1)
chain_starts (qualified p e n args) ts mid is ((m0, (pl, eq), (m1, se, more)), end) = chain_starts e ts m1 is (rw eq se)
chain_starts _ ts mid is s = cc

pub call_starts : (e : Ex) (ts mid : List Token) → is_call e ≡ true → spells e target_level ts mid → CallStart (head ts)
call_starts (unqualified p n args) ts mid is s = chain_starts (unqualified p n args) ts mid refl s
call_starts (precursor p n args) ts mid is s = chain_starts (precursor p n args) ts mid refl s
call_starts (qualified p e n args) ts mid is s = chain_starts (qualified p e n args) ts mid is s
call_starts _ ts mid is s = cc

-- a call that begins with `Current` or `Result` goes through a dot
pub through_high : (e : Ex) (ts mid : List Token) → is_call e ≡ true → spells e target_level ts mid → head ts ≢ t.Identifier → head ts ≢ t.Precursor → 2 ≤ height e
through_high (unqualified p n args) ts mid is s no_name no_word = absurd (no_name (head_name p n ts s.0.0 s.0.1))
through_high (precursor p n args) ts mid is s no_name no_word = absurd (no_word (head_at t.Precursor p ts s.0.0 s.0.1))
through_high (qualified p e n args) ts mid is s no_name no_word = let some = height_some e in omega arith
through_high _ ts mid is s no_name no_word = cc

-- ---- behind the first token

-- arguments are no `:=`
arguments_apart : (args : Exs) (ts mid : List Token) → spells_arguments args ts mid → head mid ≢ t.Assign → head ts ≢ t.Assign
arguments_apart no_exs ts mid (closed, eq) apart = rw eq apart
arguments_apart (and_ex e es) ts mid (m, so, more) apart = let opens = head_the t.OpenParenthesis ts m so in λ same. cc

chain_apart : (e : Ex) (w : Token) (more mid : List Token) → begins_calls e ≡ true → spells e target_level (w ∷ more) mid → w.terminal ≢ t.Precursor → head mid ≢ t.Assign → head more ≢ t.Assign
chain_apart (current_value p) w more mid is s no_word apart = rw s.0.1 apart
chain_apart (result_value p) w more mid is s no_word apart = rw s.0.1 apart
chain_apart (unqualified p n args) w more mid is ((m, (name, eq), sa), end) no_word apart = rw eq (arguments_apart args m mid sa apart)
chain_apart (precursor p n args) w more mid is ((m, (word, eq), sa), end) no_word apart = absurd (no_word word.0)
chain_apart (qualified p e n args) w more mid is ((m0, (pl, eq), (m1, se, (m2, sd, behind))), end) no_word apart =
    let dot = head_the t.Dot m1 m2 sd in chain_apart e w more m1 is (rw eq se) no_word (λ same. cc)
chain_apart _ w more mid is s no_word apart = cc

-- behind the name or the entity that begins a call no `:=` stands
pub call_apart : (e : Ex) (w : Token) (more mid rest : List Token) → is_call e ≡ true → spells e target_level (w ∷ more) mid → w.terminal ≢ t.Precursor → no_assignment e mid rest
    → head more ≢ t.Assign
call_apart (unqualified p n no_exs) w more mid rest is ((m, (name, eq), (closed, eq')), end) no_word (apart, eq'') = rw (eq, eq') apart
call_apart (unqualified p n (and_ex e es)) w more mid rest is ((m, (name, eq), (m', so, sa)), end) no_word apart =
    let opens = head_the t.OpenParenthesis m m' so in rw eq (λ same. cc)
call_apart (precursor p n args) w more mid rest is ((m, (word, eq), sa), end) no_word apart = absurd (no_word word.0)
call_apart (qualified p e n args) w more mid rest is ((m0, (pl, eq), (m1, se, (m2, sd, behind))), end) no_word apart =
    let dot = head_the t.Dot m1 m2 sd in chain_apart e w more m1 is (rw eq se) no_word (λ same. cc)
call_apart _ w more mid rest is s no_word apart = cc

-- that test takes no token
pub apart_ends : (e : Ex) (mid rest : List Token) → no_assignment e mid rest → mid ≡ rest
apart_ends (unqualified p n no_exs) mid rest s = s.1
apart_ends (unqualified p n (and_ex e es)) mid rest s = s
apart_ends _ mid rest s = s

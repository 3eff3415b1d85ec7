-- A reader and then another.
use Rattle.std.proofs.Common.{◌≡◌, true, false, List, [], ◌∷◌, refl, ap, ◌⊎◌, inl, inr}
use Rattle.eif_grammar.specs.Tokens.{Token}
use Rattle.eif_grammar.specs.Spelling.{head}
use Rattle.eif_grammar.specs.Goals.{Goal, Found}
use Rattle.eif_grammar.specs.Reader.{Reader, done, refuse, look, next, call, guard, fork}
use Rattle.eif_grammar.specs.Outcomes.{Outcome, got, refused, Runs, Calls}
use Rattle.eif_grammar_laws.proofs.Readers.{called, call_refused, called_parts, refused_parts, RefusedBehind, taken, looked, guarded, forked, forked_not}
use Rattle.eif_grammar_laws.proofs.StepsBack.{done_back, look_back, next_back, guard_back}
use Rattle.eif_parse_expr.specs.Subrules.{bind}

refused_same : {A : Type 0} {ts rest : List Token} → ◌≡◌ {A = Outcome A} (refused ts) (refused rest) → ts ≡ rest
refused_same e = cc

module _ {A B : Type 0} (k : A → Reader B) where
  -- the first found that, and the second goes on from there
  pub bound : (r : Reader A) (ts mid : List Token) (a : A) (u : Outcome B) → Runs r ts (got a mid) → Runs (k a) mid u → Runs (bind r k) ts u
  bound (done b) ts mid a u h more = let same = done_back h in rw (same.0, same.1) more
  bound refuse ts mid a u h more = let e = h.runs in cc
  bound (look f) ts mid a u h more = looked (bound (f (head ts)) ts mid a u (look_back h) more)
  bound (next f) [] mid a u h more = let e = h.runs in cc
  bound (next f) (w ∷ ts) mid a u h more = taken (bound (f w) ts mid a u (next_back h) more)
  bound (guard true r) ts mid a u h more = guarded refl (bound r ts mid a u (guard_back true h).1 more)
  bound (guard false r) ts mid a u h more = let e = h.runs in cc
  bound (fork true r s) ts mid a u h more = forked refl (bound r ts mid a u (record { depth = h.depth; runs = h.runs; ends = h.ends }) more)
  bound (fork false r s) ts mid a u h more = forked_not refl (bound s ts mid a u (record { depth = h.depth; runs = h.runs; ends = h.ends }) more)
  bound (call g f) ts mid a u h more =
      let p = called_parts h in called p.first (bound (f p.found) p.mid mid a u p.second more)

  -- the first refused there
  pub bound_refused : (r : Reader A) (ts rest : List Token) → Runs r ts (refused rest) → Runs (bind r k) ts (refused rest)
  bound_refused (done b) ts rest h = let e = h.runs in cc
  bound_refused refuse ts rest h = let same : ts ≡ rest = refused_same h.runs in record { depth = 0; runs = ap refused same; ends = λ e. cc }
  bound_refused (look f) ts rest h = looked (bound_refused (f (head ts)) ts rest (look_back h))
  bound_refused (next f) [] rest h = let same : [] ≡ rest = refused_same h.runs in record { depth = 0; runs = ap refused same; ends = λ e. cc }
  bound_refused (next f) (w ∷ ts) rest h = taken (bound_refused (f w) ts rest (next_back h))
  bound_refused (guard true r) ts rest h = guarded refl (bound_refused r ts rest (record { depth = h.depth; runs = h.runs; ends = h.ends }))
  bound_refused (guard false r) ts rest h = let same : ts ≡ rest = refused_same h.runs in record { depth = 0; runs = ap refused same; ends = λ e. cc }
  bound_refused (fork true r s) ts rest h = forked refl (bound_refused r ts rest (record { depth = h.depth; runs = h.runs; ends = h.ends }))
  bound_refused (fork false r s) ts rest h = forked_not refl (bound_refused s ts rest (record { depth = h.depth; runs = h.runs; ends = h.ends }))
  bound_refused (call g f) ts rest h = in_call g f ts rest (refused_parts h) (λ a mid behind. bound_refused (f a) mid rest behind)
    where
      in_call : (g : Goal) (f : Found g → Reader A) (ts rest : List Token) → Calls g ts (refused rest) ⊎ RefusedBehind g f ts rest
          → ((a : Found g) (mid : List Token) → Runs (f a) mid (refused rest) → Runs (bind (f a) k) mid (refused rest)) → Runs (bind (call g f) k) ts (refused rest)
      in_call g f ts rest (inl c) more = call_refused c
      in_call g f ts rest (inr p) more = called p.first (more p.found p.mid p.second)

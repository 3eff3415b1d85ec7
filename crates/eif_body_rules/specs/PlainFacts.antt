-- The facts that an expression tells, by its tree alone: names that are attached, and the places of the tests whose
-- locals may be used.
use Rattle.std.specs.Prelude.{ℕ, nat_lt, Bool, false, not, ◌||◌, if◌then◌else◌, List, [], ◌∷◌, ◌++◌, map, Option, Some, None}
use Rattle.std.specs.Str.{bytes_eq}
use Rattle.eif_base.specs.declared.place.Place.{Place}
use Rattle.eif_tree.specs.declared.tree.NameAt.{NameAt}
use Rattle.eif_tree.specs.Tree.{Ex, literal, void_value, current_value, result_value, unqualified, precursor, qualified, creation, test, paren, unary, binary}
use Rattle.eif_body_rules.specs.Conditions.{tested_name, left_value, told_by_unary, told_by_operands, told_by_void}
use Rattle.eif_body_rules.specs.TestRules.{local_names}

pub data PlainFact : Type 0 where
  attached : List ℕ → PlainFact
  -- the local's name, the place of the test
  usable_at : List ℕ → Place → PlainFact

abbrev pub is_attached : List PlainFact → List ℕ → Bool
is_attached [] x = false
is_attached (attached y ∷ k) x = bytes_eq y x || is_attached k x
is_attached (usable_at y p ∷ k) x = is_attached k x

-- of two places the earlier in the text
abbrev pub earlier : Place → Option Place → Place
earlier p None = p
earlier p (Some q) = if nat_lt q.offset p.offset then q else p

-- the place of the test whose local of that name may be used
abbrev pub local_place : List PlainFact → List ℕ → Option Place
local_place [] x = None
local_place (attached y ∷ k) x = local_place k x
local_place (usable_at y p ∷ k) x = if bytes_eq y x then Some (earlier p (local_place k x)) else local_place k x

abbrev pub told_by_test : (List ℕ → Bool) → Place → Option NameAt → Ex → List PlainFact
told_by_test testable p local e = map attached (tested_name testable e) ++ map (λ x. usable_at x p) (local_names local)

-- where the expression has the value b; names of arguments, locals and tests' locals are testable
abbrev pub plain_facts : (List ℕ → Bool) → Bool → Ex → List PlainFact
plain_facts testable b (literal p x) = []
plain_facts testable b (void_value p) = []
plain_facts testable b (current_value p) = []
plain_facts testable b (result_value p) = []
plain_facts testable b (unqualified p x args) = []
plain_facts testable b (precursor p x args) = []
plain_facts testable b (qualified p e x args) = []
plain_facts testable b (creation p t x args) = []
plain_facts testable b (test p t local e) = if b then told_by_test testable p local e else []
plain_facts testable b (paren p e) = plain_facts testable b e
plain_facts testable b (unary p o e) = told_by_unary o (plain_facts testable (not b) e)
plain_facts testable b (binary p o q left right) =
    map attached (told_by_void testable o b left right)
    ++ told_by_operands o b (plain_facts testable (left_value o b) left ++ plain_facts testable b right)

-- What expressions and instructions tell is of typed tests, where what is known before is.
use Rattle.std.proofs.Common.{◌≡◌, ℕ, Bool, true, false, List, [], ◌∷◌, ◌++◌, Option, Some, None, refl}
use Rattle.std.specs.Prelude.{if◌then◌else◌, ◌&&◌, nat_lt}
use Rattle.std.specs.Str.{bytes_eq}
use Rattle.eif_base.specs.declared.place.Place.{Place}
use Rattle.eif_base.specs.Numbering.{is_among}
use Rattle.eif_tree.specs.declared.tree.NameAt.{NameAt}
use Rattle.eif_tree.specs.declared.tree.Op.{Op}
use Rattle.eif_tree.specs.declared.tree.Op.TheVariants as op
use Rattle.eif_tree.specs.Tree.{TypeT, Ins, assign, call, create, choose, loop, check, Inss, no_inss, and_ins}
use Rattle.eif_classes.specs.Signatures.{Signature, signature}
use Rattle.eif_classes.specs.Types.{TyT}
use Rattle.eif_body_rules.specs.Conditions.{is_short, tells_both, at_right, told_by_unary, told_by_operands}
use Rattle.eif_body_rules.specs.ExpressionTypes.{type_of, all_attached}
use Rattle.eif_body_rules.specs.Facts.{Fact, attached, usable, Usable, earlier, usable_test, is_kept, forgotten}
use Rattle.eif_body_rules.specs.KnownFacts.{assigned, assigned_in, without, learned, has_attached_type, known_after, known_after_all, known_in_loop}
use Rattle.eif_body_rules.specs.Settings.{Setting, Entity, entity_of, is_local, Meaning, test_local, or_feature, or_entity, or_test, meaning}
use Rattle.eif_body_rules.specs.TestRules.{local_type, bound_local}
use Rattle.eif_valid_bodies.specs.Valid.{HasType, TestsTyped}
use Rattle.eif_valid_bodies.proofs.Parts.{no_value}

-- ---- lists of facts

pub typed_both : (a b : List Fact) → TestsTyped a → TestsTyped b → TestsTyped (a ++ b)
typed_both [] b p q = q
typed_both (attached x ∷ a) b p q = typed_both a b p q
typed_both (usable x t ∷ a) b p q = (p.0, typed_both a b p.1 q)

pub attached_typed : (xs : List (List ℕ)) → TestsTyped (all_attached xs)
attached_typed [] = tt
attached_typed (x ∷ xs) = attached_typed xs

pub typed_if : (b : Bool) (a : List Fact) → TestsTyped a → TestsTyped (if b then a else [])
typed_if true a p = p
typed_if false a p = tt

typed_of : (b : Bool) (a c : List Fact) → TestsTyped a → TestsTyped c → TestsTyped (if b then a else c)
typed_of true a c p q = p
typed_of false a c p q = q

pub at_right_typed : (o : Op) (k by_left : List Fact) → TestsTyped k → TestsTyped by_left
    → TestsTyped (at_right o k by_left)
at_right_typed o k by_left p q = typed_of (is_short o) (k ++ by_left) k (typed_both k by_left p q) p

pub unary_typed : (o : Op) (a : List Fact) → TestsTyped a → TestsTyped (told_by_unary o a)
unary_typed op.Not a p = p
unary_typed _ a p = tt

pub operands_typed : (o : Op) (b : Bool) (a : List Fact) → TestsTyped a → TestsTyped (told_by_operands o b a)
operands_typed o b a p = typed_if (tells_both o b) a p

-- ---- the local of a test whose tested expression has a type

local_typed : (s : Setting) (w : Option TypeT) (o : Option TyT) (t : TyT) → o ≡ Some t → HasType (local_type s w o)
local_typed s None None t h = absurd (no_value h)
local_typed s None (Some u) t h = record { type = _; is = refl }
local_typed s (Some w) o t h = record { type = _; is = refl }

pub bound_typed : (s : Setting) (p : Place) (local : Option NameAt) (w : Option TypeT) (o : Option TyT) (t : TyT)
    → o ≡ Some t
    → TestsTyped (bound_local p local (local_type s w o))
unfolding bound_local
bound_typed s p None w o t h = tt
bound_typed s p (Some local) w o t h = (local_typed s w o t h, tt)

-- ---- a test's local that a name denotes

abbrev UsableTyped : Option Usable → Type 0
UsableTyped None = Unit {0}
UsableTyped (Some t) = HasType t.type

abbrev pub MeaningTyped : Meaning → Type 0
MeaningTyped (test_local o) = HasType o
MeaningTyped _ = Unit {0}

if_earlier : (b : Bool) (t u : Usable) → HasType t.type → HasType u.type → HasType (if b then u else t).type
if_earlier true t u p q = q
if_earlier false t u p q = p

earlier_typed : (t : Usable) (o : Option Usable) → HasType t.type → UsableTyped o → HasType (earlier t o).type
earlier_typed t None p q = p
earlier_typed t (Some u) p q = if_earlier (nat_lt u.place.offset t.place.offset) t u p q

if_named : (b : Bool) (t : Usable) (o : Option Usable) → HasType t.type → UsableTyped o
    → UsableTyped (if b then Some (earlier t o) else o)
if_named true t o p q = earlier_typed t o p q
if_named false t o p q = q

usable_typed : (k : List Fact) (x : List ℕ) → TestsTyped k → UsableTyped (usable_test k x)
usable_typed [] x p = tt
usable_typed (attached y ∷ k) x p = usable_typed k x p
usable_typed (usable y t ∷ k) x p = if_named (bytes_eq y x) t (usable_test k x) p.0 (usable_typed k x p.1)

feature_typed : (o : Option Signature) → MeaningTyped (or_feature o)
feature_typed None = tt
feature_typed (Some g) = tt

entity_typed : (m : Meaning) (o : Option Entity) → MeaningTyped m → MeaningTyped (or_entity m o)
entity_typed m None p = p
entity_typed m (Some e) p = tt

test_typed : (m : Meaning) (o : Option Usable) → MeaningTyped m → UsableTyped o → MeaningTyped (or_test m o)
test_typed m None p q = p
test_typed m (Some t) p q = q

pub meaning_typed : (s : Setting) (k : List Fact) (x : List ℕ) → TestsTyped k → MeaningTyped (meaning s k x)
unfolding meaning
meaning_typed s k x p =
    test_typed _ (usable_test k x)
    (entity_typed _ (entity_of s x) (feature_typed (signature s.universe s.line x))) (usable_typed k x p)

-- ---- along instructions

kept_if : (b : Bool) (f : Fact) (k : List Fact) → TestsTyped (f ∷ []) → TestsTyped k
    → TestsTyped (if b then f ∷ k else k)
kept_if true f k p q = typed_both (f ∷ []) k p q
kept_if false f k p q = q

forgotten_typed : (gone : List ℕ → Bool) (k : List Fact) → TestsTyped k → TestsTyped (forgotten gone k)
forgotten_typed gone [] p = tt
forgotten_typed gone (attached x ∷ k) p =
    kept_if (is_kept gone (attached x)) (attached x) (forgotten gone k) tt (forgotten_typed gone k p)
forgotten_typed gone (usable x t ∷ k) p = (p.0, forgotten_typed gone k p.1)

pub without_typed : (s : Setting) (xs : List (List ℕ)) (k : List Fact) → TestsTyped k → TestsTyped (without s xs k)
unfolding without
without_typed s xs k p = forgotten_typed (λ x. is_local s x && is_among xs x) k p

learned_typed : (s : Setting) (x : List ℕ) (b : Bool) → TestsTyped (learned s x b)
unfolding learned
learned_typed s x b = typed_if (is_local s x && b) (attached x ∷ []) tt

pub after_typed : (s : Setting) (k : List Fact) (i : Ins) → TestsTyped k → TestsTyped (known_after s k i)
after_typed s k (assign x e) p =
    typed_both (without s (x.name ∷ []) k) (learned s x.name (has_attached_type s (type_of s k e)))
    (without_typed s (x.name ∷ []) k p) (learned_typed s x.name (has_attached_type s (type_of s k e)))
after_typed s k (create q t x y args) p =
    typed_both (without s (x.name ∷ []) k) (learned s x.name true)
    (without_typed s (x.name ∷ []) k p) (learned_typed s x.name true)
after_typed s k (call e) p = p
after_typed s k (choose bs o) p = without_typed s (assigned (choose bs o)) k p
after_typed s k (loop start claims exit body variant) p =
    without_typed s (assigned (loop start claims exit body variant)) k p
after_typed s k (check claims) p = p

pub after_all_typed : (s : Setting) (k : List Fact) (is : Inss) → TestsTyped k → TestsTyped (known_after_all s k is)
after_all_typed s k no_inss p = p
after_all_typed s k (and_ins i is) p = after_all_typed s (known_after s k i) is (after_typed s k i p)

pub loop_typed : (s : Setting) (k : List Fact) (start body : Inss) → TestsTyped k
    → TestsTyped (known_in_loop s k start body)
loop_typed s k start body p =
    without_typed s (assigned_in body) (known_after_all s k start) (after_all_typed s k start p)

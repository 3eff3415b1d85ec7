-- What an expression gives: a value, seen under a type. A call without result gives nothing.
use Rattle.std.specs.Prelude.{ℕ, List, [], ◌∷◌, Option, Some, None}
use Rattle.std.specs.Option.{option_map}
use Rattle.eif_tree.specs.declared.tree.Literal.{Literal}
use Rattle.eif_tree.specs.declared.tree.Literal.TheVariants as lit
use Rattle.eif_tree.specs.declared.tree.Mark.TheVariants.{Attached}
use Rattle.eif_tree.specs.declared.tree.NameAt.{NameAt}
use Rattle.eif_tree.specs.Tree.{TypeT, Ex, literal, void_value, current_value, result_value, unqualified, precursor, qualified, creation, test, paren, unary, binary, Exs, no_exs, and_ex}
use Rattle.eif_classes.specs.Types.{TyT, class_type, none_type}
use Rattle.eif_meaning.specs.Values.{Value, void, character, Seen, unset, no_feature, Does, ◌>>=◌, give, fail, some_or, need}
use Rattle.eif_meaning.specs.System.{Version}
use Rattle.eif_meaning.specs.KernelTypes.{character_type}
use Rattle.eif_meaning.specs.Frames.{Frame, written_type}
use Rattle.eif_meaning.specs.Operands.{give_seen, give_integer, give_boolean, give_string}
use Rattle.eif_meaning.specs.Operators.{asks_right, operate_with, operate_one}
use Rattle.eif_meaning.specs.Calls.{call_on, call_name, call_version}
use Rattle.eif_meaning.specs.Creations.{create_object}
use Rattle.eif_meaning.specs.ObjectTests.{run_test}

-- a string literal is a new STRING each time
abbrev pub evaluate_literal : Literal → Does (Option Seen)
evaluate_literal (lit.Int n) = give_integer n
evaluate_literal (lit.Char n) = give_seen (character n) character_type
evaluate_literal (lit.Text bytes) = give_string bytes
evaluate_literal (lit.Bool b) = give_boolean b

-- Current is seen as its text's class with its own formals
abbrev pub current_type : Frame → TyT
current_type c = class_type c.class_number Attached (c.system.formals c.class_number)

-- only a function has a `Result`
abbrev pub read_result : Frame → Option TypeT → Does (Option Seen)
read_result c None = fail no_feature
read_result c (Some t) = λ s. some_or unset s.result (λ v. give_seen v (written_type c t)) s

-- a name that may be left out
abbrev pub written_name : Option NameAt → Option (List ℕ)
written_name o = option_map (λ n. n.name) o

-- the version of a parent for the declaration that runs
abbrev pub version : Frame → Option (List ℕ) → Option Version
version c parent = c.system.precursor c.class_number c.name parent

abbrev mutual
  -- the target, the arguments from left to right, and then the call
  pub evaluate : Frame → Ex → Does (Option Seen)
  evaluate c (literal p x) = evaluate_literal x
  evaluate c (void_value p) = give_seen void none_type
  evaluate c (current_value p) = give_seen c.current (current_type c)
  evaluate c (result_value p) = read_result c c.tree.result_type
  evaluate c (unqualified p x args) = evaluate_all c args >>= call_name c x
  evaluate c (precursor p parent args) = evaluate_all c args >>= call_version c (version c (written_name parent))
  evaluate c (qualified p e x args) = (evaluate c e >>= need) >>= (λ v. evaluate_all c args >>= call_on c v x.name)
  evaluate c (creation p t f args) =
      evaluate_all c args >>= (λ vs. create_object c (written_name f) vs (written_type c t))
  evaluate c (test p t y e) = (evaluate c e >>= need) >>= run_test c t y
  evaluate c (paren p e) = evaluate c e
  evaluate c (unary p o e) = (evaluate c e >>= need) >>= (λ v. operate_one o v.value)
  evaluate c (binary p o q l r) =
      (evaluate c l >>= need) >>= (λ v. operate_with (asks_right o) o v.value (evaluate c r >>= need))

  -- the values of arguments
  pub evaluate_all : Frame → Exs → Does (List Value)
  evaluate_all c no_exs = give []
  evaluate_all c (and_ex e es) =
      (evaluate c e >>= need) >>= (λ v. evaluate_all c es >>= (λ vs. give (v.value ∷ vs)))

-- an expression of which the value is used
abbrev pub value_of : Frame → Ex → Does Seen
value_of c e = evaluate c e >>= need

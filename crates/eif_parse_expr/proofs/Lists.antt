-- Types and arguments that are read one by one.
use Rattle.std.proofs.Common.{◌≡◌, max, List, [], ◌∷◌, ◌++◌, refl, ap, arith}
use Rattle.eif_tree.specs.Tree.{TypeT, Types, no_types, and_type, Ex, Exs, no_exs, and_ex}
use Rattle.eif_tree.specs.View.{types_from, exs_from}
use Rattle.eif_tree.specs.Height.{type_height, types_height, height, heights}
use Rattle.eif_grammar.specs.Tokens.{Token}
use Rattle.eif_grammar.specs.Outcomes.{Outcome, got, refused, stuck}

-- ---- types

-- the outcome with one more in front
abbrev pub and_type_first : TypeT → Outcome Types → Outcome Types
and_type_first ty (got ts rest) = got (and_type ty ts) rest
and_type_first ty (refused rest) = refused rest
and_type_first ty stuck = stuck

-- the outcome with these in front
abbrev pub types_behind : List TypeT → Outcome Types → Outcome Types
types_behind [] u = u
types_behind (ty ∷ ts) u = and_type_first ty (types_behind ts u)

pub types_behind-more : (ts : List TypeT) (ty : TypeT) (u : Outcome Types) → types_behind ts (and_type_first ty u) ≡ types_behind (ts ++ ty ∷ []) u
types_behind-more [] ty u = refl
types_behind-more (x ∷ ts) ty u = ap (and_type_first x) (types_behind-more ts ty u)

pub types_behind-last : (ts : List TypeT) (ty : TypeT) (rest : List Token) → types_behind ts (got (and_type ty no_types) rest) ≡ got (types_from (ts ++ ty ∷ [])) rest
types_behind-last [] ty rest = refl
types_behind-last (x ∷ ts) ty rest = ap (and_type_first x) (types_behind-last ts ty rest)

pub types_behind-refused : (ts : List TypeT) (rest : List Token) → types_behind ts (refused rest) ≡ refused rest
types_behind-refused [] rest = refl
types_behind-refused (x ∷ ts) rest = ap (and_type_first x) (types_behind-refused ts rest)

pub types_height-more : (ts : List TypeT) (ty : TypeT) → types_height (types_from (ts ++ ty ∷ [])) ≡ max (type_height ty) (types_height (types_from ts))
types_height-more [] ty = refl
types_height-more (x ∷ ts) ty = omega (arith, types_height-more ts ty)

-- ---- arguments

abbrev pub and_ex_first : Ex → Outcome Exs → Outcome Exs
and_ex_first e (got es rest) = got (and_ex e es) rest
and_ex_first e (refused rest) = refused rest
and_ex_first e stuck = stuck

abbrev pub exs_behind : List Ex → Outcome Exs → Outcome Exs
exs_behind [] u = u
exs_behind (e ∷ es) u = and_ex_first e (exs_behind es u)

pub exs_behind-more : (es : List Ex) (e : Ex) (u : Outcome Exs) → exs_behind es (and_ex_first e u) ≡ exs_behind (es ++ e ∷ []) u
exs_behind-more [] e u = refl
exs_behind-more (x ∷ es) e u = ap (and_ex_first x) (exs_behind-more es e u)

pub exs_behind-last : (es : List Ex) (e : Ex) (rest : List Token) → exs_behind es (got (and_ex e no_exs) rest) ≡ got (exs_from (es ++ e ∷ [])) rest
exs_behind-last [] e rest = refl
exs_behind-last (x ∷ es) e rest = ap (and_ex_first x) (exs_behind-last es e rest)

pub exs_behind-refused : (es : List Ex) (rest : List Token) → exs_behind es (refused rest) ≡ refused rest
exs_behind-refused [] rest = refl
exs_behind-refused (x ∷ es) rest = ap (and_ex_first x) (exs_behind-refused es rest)

pub heights-more : (es : List Ex) (e : Ex) → heights (exs_from (es ++ e ∷ [])) ≡ max (height e) (heights (exs_from es))
heights-more [] e = refl
heights-more (x ∷ es) e = omega (arith, heights-more es e)

-- Assertions, instructions and branches that are read one by one.
use Rattle.std.proofs.Common.{◌≡◌, max, List, [], ◌∷◌, ◌++◌, refl, ap, arith}
use Rattle.eif_tree.specs.Tree.{Ex, no_exs, Ins, Inss, no_inss, and_ins, Branches, no_branches, and_branch}
use Rattle.eif_tree.specs.View.{exs_from, inss_from, branches_from}
use Rattle.eif_tree.specs.Height.{height, instr_height, compound_height, branches_height}
use Rattle.eif_grammar.specs.Tokens.{Token}
use Rattle.eif_grammar.specs.Outcomes.{Outcome, got, refused, stuck}
use Rattle.eif_parse_expr.proofs.Lists.{exs_behind, and_ex_first}

-- ---- assertions

pub exs_behind-end : (es : List Ex) (rest : List Token) → exs_behind es (got no_exs rest) ≡ got (exs_from es) rest
exs_behind-end [] rest = refl
exs_behind-end (e ∷ es) rest = ap (and_ex_first e) (exs_behind-end es rest)

-- ---- instructions

-- the outcome with one more in front
abbrev pub and_ins_first : Ins → Outcome Inss → Outcome Inss
and_ins_first i (got is rest) = got (and_ins i is) rest
and_ins_first i (refused rest) = refused rest
and_ins_first i stuck = stuck

-- the outcome with these in front
abbrev pub inss_behind : List Ins → Outcome Inss → Outcome Inss
inss_behind [] u = u
inss_behind (i ∷ is) u = and_ins_first i (inss_behind is u)

pub inss_behind-more : (is : List Ins) (i : Ins) (u : Outcome Inss) → inss_behind is (and_ins_first i u) ≡ inss_behind (is ++ i ∷ []) u
inss_behind-more [] i u = refl
inss_behind-more (x ∷ is) i u = ap (and_ins_first x) (inss_behind-more is i u)

pub inss_behind-end : (is : List Ins) (rest : List Token) → inss_behind is (got no_inss rest) ≡ got (inss_from is) rest
inss_behind-end [] rest = refl
inss_behind-end (x ∷ is) rest = ap (and_ins_first x) (inss_behind-end is rest)

pub inss_behind-refused : (is : List Ins) (rest : List Token) → inss_behind is (refused rest) ≡ refused rest
inss_behind-refused [] rest = refl
inss_behind-refused (x ∷ is) rest = ap (and_ins_first x) (inss_behind-refused is rest)

pub compound_height-more : (is : List Ins) (i : Ins) → compound_height (inss_from (is ++ i ∷ [])) ≡ max (instr_height i) (compound_height (inss_from is))
compound_height-more [] i = refl
compound_height-more (x ∷ is) i = omega (arith, compound_height-more is i)

-- ---- branches

abbrev pub and_branch_first : Ex × Inss → Outcome Branches → Outcome Branches
and_branch_first b (got bs rest) = got (and_branch b.0 b.1 bs) rest
and_branch_first b (refused rest) = refused rest
and_branch_first b stuck = stuck

abbrev pub branches_behind : List (Ex × Inss) → Outcome Branches → Outcome Branches
branches_behind [] u = u
branches_behind (b ∷ bs) u = and_branch_first b (branches_behind bs u)

pub branches_behind-more : (bs : List (Ex × Inss)) (b : Ex × Inss) (u : Outcome Branches) → branches_behind bs (and_branch_first b u) ≡ branches_behind (bs ++ b ∷ []) u
branches_behind-more [] b u = refl
branches_behind-more (x ∷ bs) b u = ap (and_branch_first x) (branches_behind-more bs b u)

pub branches_behind-last : (bs : List (Ex × Inss)) (b : Ex × Inss) (rest : List Token) → branches_behind bs (got (and_branch b.0 b.1 no_branches) rest) ≡ got (branches_from (bs ++ b ∷ [])) rest
branches_behind-last [] b rest = refl
branches_behind-last (x ∷ bs) b rest = ap (and_branch_first x) (branches_behind-last bs b rest)

pub branches_behind-refused : (bs : List (Ex × Inss)) (rest : List Token) → branches_behind bs (refused rest) ≡ refused rest
branches_behind-refused [] rest = refl
branches_behind-refused (x ∷ bs) rest = ap (and_branch_first x) (branches_behind-refused bs rest)

pub branches_height-more : (bs : List (Ex × Inss)) (b : Ex × Inss)
    → branches_height (branches_from (bs ++ b ∷ [])) ≡ max (max (height b.0) (compound_height b.1)) (branches_height (branches_from bs))
branches_height-more [] b = refl
branches_height-more (x ∷ bs) b = omega (arith, branches_height-more bs b)

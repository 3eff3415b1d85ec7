-- Formals, creators, groups and result types that are spelled are found.
use Rattle.std.proofs.Common.{◌≡◌, ◌≢◌, ◌≤◌, List, [], ◌∷◌, Option, Some, None, refl, ap, sym, ◌∙◌, subst, arith, inl, inr}
use Rattle.eif_tree.specs.declared.NameAt.{NameAt}
use Rattle.eif_tree.specs.Tree.{TypeT, GroupT, FormalT, CreatorsT}
use Rattle.eif_tree.specs.Height.{type_height, written_height, highest, group_height}
use Rattle.eif_grammar.specs.declared.terminal.Terminal.TheVariants as t
use Rattle.eif_grammar.specs.Tokens.{Token}
use Rattle.eif_grammar.specs.Spelling
use Rattle.eif_grammar.specs.Spelling.{head, the, semicolons}
use Rattle.eif_grammar.specs.SpelledTypes.{spells_type}
use Rattle.eif_grammar.specs.SpelledClasses as spelled
use Rattle.eif_grammar.specs.Goals
use Rattle.eif_grammar.specs.Goals.{class_goal}
use Rattle.eif_grammar.specs.ClassRules.{creators_of, groups_from}
use Rattle.eif_grammar.specs.Parts.{most_height}
use Rattle.eif_grammar.specs.Outcomes.{got, Runs, Calls}
use Rattle.eif_grammar_laws.proofs.Readers.{by_rule, called, ended}
use Rattle.eif_grammar_laws.proofs.Terminals.{on_found, on_other}
use Rattle.eif_grammar_laws.proofs.ClassMeanings.{formal_height}
use Rattle.eif_grammar_laws.proofs.Taken.{head_the, expect_the, on_the}
use Rattle.eif_grammar_laws.proofs.ClassSteps.{PartsFound, names_head, last, ended_as, ended_at, ended_both, named}
use Rattle.eif_grammar_laws.proofs.NameComplete.{names_found, colon_names_found, maybe_clients_run}

-- ---- how groups begin

pub group_head : (g : GroupT) (ts rest : List Token) → spelled.spells_group g ts rest → head ts ≡ t.Identifier
group_head g ts rest (mid, names, s) = names_head g.names ts mid names

-- ---- creators

pub creators_found : (cs : List CreatorsT) (ts rest : List Token) → spelled.spells_creators cs ts rest → Calls (class_goal Goals.creators) ts (got cs rest)
creators_found [] ts rest (none, e) = by_rule (on_other none (ended_at e))
creators_found (c ∷ cs) ts rest (m1, word, (m2, clients, (m3, names, s))) =
    by_rule (on_the t.Create ts m1 word (λ n. maybe_clients_run c.clients creators_of m1 m2 clients
    (called (names_found c.names m2 m3 names) (called (creators_found cs m3 rest s) ended))))

-- many `;`, and then groups
groups_behind_found : (gs : List GroupT) (ts mid rest : List Token) → semicolons ts mid → head mid ≡ t.Identifier → Runs groups_from mid (got gs rest)
    → Calls (class_goal Goals.groups_behind) ts (got gs rest)
groups_behind_found gs [] mid rest e name r = let none = ap head e in cc
groups_behind_found gs (n ∷ ts) mid rest (inl (semicolon, s)) name r = by_rule (on_the t.Semicolon (n ∷ ts) ts (semicolon, refl) (λ n'. last (groups_behind_found gs ts mid rest s name r)))
groups_behind_found gs (n ∷ ts) mid rest (inr (none, e)) name r = by_rule (on_other none (subst (λ l. Runs groups_from l (got gs rest)) (sym e) r))

-- the same, where there need be none
groups_after_found : (gs : List GroupT) (ts mid rest : List Token) → semicolons ts mid → head mid ≡ t.Identifier → Runs groups_from mid (got gs rest)
    → Calls (class_goal Goals.more_groups) ts (got gs rest)
groups_after_found gs [] mid rest e name r = let none = ap head e in cc
groups_after_found gs (n ∷ ts) mid rest (inl (semicolon, s)) name r = by_rule (on_the t.Semicolon (n ∷ ts) ts (semicolon, refl) (λ n'. last (groups_behind_found gs ts mid rest s name r)))
groups_after_found gs (n ∷ ts) mid rest (inr (none, e)) name r =
    by_rule (on_other none (on_found (ap head e ∙ name) (subst (λ l. Runs groups_from l (got gs rest)) (sym e) r)))

module _ (found : PartsFound) where
  -- ---- formals

  formal_by : (n : NameAt) (ty : Option TypeT) (ts mid rest : List Token) → Spelling.the_name n ts mid → spelled.spells_constraint ty mid rest → written_height ty ≤ most_height
      → Calls (class_goal Goals.formal) ts (got (record { place = n.place; name = n.name; constraint = ty }) rest)
  formal_by n None ts mid rest name (none, e') low =
      by_rule (named n ts mid name (λ word e. on_other none (ended_both (ap (λ x. record { place = x.place; name = x.name; constraint = None }) e) e')))
  formal_by n (Some ty) ts mid rest name (m, arrow, s) low =
      by_rule (named n ts mid name (λ word e. on_the t.Arrow mid m arrow (λ a. called (found.type_found ty most_height m rest s low)
      (ended_as (ap (λ x. record { place = x.place; name = x.name; constraint = Some ty }) e)))))

  pub formal_found : (f : FormalT) (ts rest : List Token) → spelled.spells_formal f ts rest → formal_height f ≤ most_height → Calls (class_goal Goals.formal) ts (got f rest)
  formal_found f ts rest (mid, name, s) low = formal_by (record { place = f.place; name = f.name }) f.constraint ts mid rest name s low

  pub more_formals_found : (fs : List FormalT) (ts rest : List Token) → spelled.more_formals fs ts rest → highest formal_height fs ≤ most_height
      → Calls (class_goal Goals.more_formals) ts (got fs rest)
  more_formals_found [] ts rest (none, e) low = by_rule (on_other none (ended_at e))
  more_formals_found (f ∷ fs) ts rest (m1, comma, (m2, s, more)) low =
      by_rule (on_the t.Comma ts m1 comma (λ c. called (formal_found f m1 m2 s (omega arith)) (called (more_formals_found fs m2 rest more (omega arith)) ended)))

  pub formals_found : (fs : List FormalT) (ts rest : List Token) → spelled.spells_formals fs ts rest → highest formal_height fs ≤ most_height
      → Calls (class_goal Goals.formals) ts (got fs rest)
  formals_found [] ts rest (none, e) low = by_rule (on_other none (ended_at e))
  formals_found (f ∷ fs) ts rest (m1, open', (m2, s, (m3, more, close))) low =
      by_rule (on_the t.OpenBracket ts m1 open' (λ c. called (formal_found f m1 m2 s (omega arith)) (called (more_formals_found fs m2 m3 more (omega arith))
      (expect_the m3 rest close ended))))

  -- ---- groups

  group_by : (ns : List NameAt) (ty : TypeT) (ts m1 m2 rest : List Token) → Spelling.names ns ts m1 → the t.Colon m1 m2 → spells_type ty m2 rest → type_height ty ≤ most_height
      → Calls (class_goal Goals.group) ts (got (record { names = ns; type_tree = ty }) rest)
  group_by [] ty ts m1 m2 rest names colon s low = absurd names
  group_by (n ∷ ns) ty ts m1 m2 rest (m, name, more) colon s low =
      by_rule (named n ts m name (λ word e. called (colon_names_found ns m m1 m2 more colon) (called (found.type_found ty most_height m2 rest s low)
      (ended_as (ap (λ x. record { names = x ∷ ns; type_tree = ty }) e)))))

  pub group_found : (g : GroupT) (ts rest : List Token) → spelled.spells_group g ts rest → group_height g ≤ most_height → Calls (class_goal Goals.group) ts (got g rest)
  group_found g ts rest (m1, names, (m2, colon, s)) low = group_by g.names g.type_tree ts m1 m2 rest names colon s low

  -- a `)` stands behind them
  pub more_groups_found : (gs : List GroupT) (ts rest : List Token) → spelled.more_groups gs ts rest → head rest ≡ t.CloseParenthesis → highest group_height gs ≤ most_height
      → Calls (class_goal Goals.more_groups) ts (got gs rest)
  more_groups_found [] ts rest e close low =
      let here = ap head e ∙ close in
      let no_semicolon : head ts ≢ t.Semicolon = λ f. cc in
      let no_name : head ts ≢ t.Identifier = λ f. cc in
      by_rule (on_other no_semicolon (on_other no_name (ended_at e)))
  more_groups_found (g ∷ gs) ts rest (m1, semis, (m2, s, more)) close low =
      groups_after_found (g ∷ gs) ts m1 rest semis (group_head g m1 m2 s)
      (called (group_found g m1 m2 s (omega arith)) (called (more_groups_found gs m2 rest more close (omega arith)) ended))

  pub formal_arguments_found : (gs : List GroupT) (ts rest : List Token) → spelled.spells_formal_arguments gs ts rest → highest group_height gs ≤ most_height
      → Calls (class_goal Goals.formal_arguments) ts (got gs rest)
  formal_arguments_found [] ts rest (none, e) low = by_rule (on_other none (ended_at e))
  formal_arguments_found (g ∷ gs) ts rest (m1, open', (m2, s, (m3, more, close))) low =
      by_rule (on_the t.OpenParenthesis ts m1 open' (λ c. called (group_found g m1 m2 s (omega arith))
      (called (more_groups_found gs m2 m3 more (head_the t.CloseParenthesis m3 rest close) (omega arith)) (expect_the m3 rest close ended))))

  pub local_groups_found : (gs : List GroupT) (ts rest : List Token) → spelled.local_groups gs ts rest → highest group_height gs ≤ most_height
      → Calls (class_goal Goals.local_groups) ts (got gs rest)
  local_groups_found [] ts rest (none, e) low = by_rule (on_other none (ended_at e))
  local_groups_found (g ∷ gs) ts rest (m1, s, (m2, semis, more)) low =
      by_rule (on_found (group_head g ts m1 s) (called (group_found g ts m1 s (omega arith)) (called (found.semis_found m1 m2 semis)
      (called (local_groups_found gs m2 rest more (omega arith)) ended))))

  pub locals_found : (gs : List GroupT) (ts rest : List Token) → spelled.spells_locals gs ts rest → highest group_height gs ≤ most_height
      → Calls (class_goal Goals.locals) ts (got gs rest)
  locals_found gs ts rest (inl (mid, word, s)) low = by_rule (on_the t.Local ts mid word (λ n. last (local_groups_found gs mid rest s low)))
  locals_found gs ts rest (inr (m, (empty, e), (none, e'))) low =
      by_rule (on_other (subst (λ l. head l ≢ t.Local) (sym e) none) (ended_both (sym empty) (e ∙ e')))

  pub result_type_found : (ty : Option TypeT) (ts rest : List Token) → spelled.spells_result ty ts rest → written_height ty ≤ most_height
      → Calls (class_goal Goals.result_type) ts (got ty rest)
  result_type_found None ts rest (none, e) low = by_rule (on_other none (ended_at e))
  result_type_found (Some ty) ts rest (mid, colon, s) low = by_rule (on_the t.Colon ts mid colon (λ n. called (found.type_found ty most_height mid rest s low) ended))

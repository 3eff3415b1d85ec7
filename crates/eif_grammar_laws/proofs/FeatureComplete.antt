-- Features that are spelled are found.
use Rattle.std.proofs.Common.{◌≡◌, ◌≢◌, true, false, ◌≤◌, List, [], ◌∷◌, Option, Some, None, refl, ap, sym, ◌∙◌, subst, arith, ◌⊎◌, inl, inr}
use Rattle.eif_tree.specs.declared.NameAt.{NameAt}
use Rattle.eif_tree.specs.Tree.{TypeT, Exs, GroupT, KindT, attribute, constant, deferred_body, routine, DeclT, FeaturesT}
use Rattle.eif_tree.specs.Height.{type_height, written_height, heights, highest, group_height, kind_height, decl_height, features_height}
use Rattle.eif_grammar.specs.declared.terminal.Terminal.{Terminal}
use Rattle.eif_grammar.specs.declared.terminal.Terminal.TheVariants as t
use Rattle.eif_grammar.specs.Tokens.{Token}
use Rattle.eif_grammar.specs.Spelling
use Rattle.eif_grammar.specs.Spelling.{head, the, the_name, maybe}
use Rattle.eif_grammar.specs.SpelledTypes.{spells_type}
use Rattle.eif_grammar.specs.SpelledInstructions.{assertions_behind}
use Rattle.eif_grammar.specs.SpelledClasses as spelled
use Rattle.eif_grammar.specs.Forms.{begins_routine}
use Rattle.eif_grammar.specs.Goals
use Rattle.eif_grammar.specs.Goals.{class_goal}
use Rattle.eif_grammar.specs.Reader.{Reader, next, on}
use Rattle.eif_grammar.specs.ClassRules.{features_of, attributes, value_of, several, typed, routine_from}
use Rattle.eif_grammar.specs.Parts.{most_height}
use Rattle.eif_grammar.specs.Outcomes.{got, Runs, Calls}
use Rattle.eif_grammar_laws.proofs.Readers.{by_rule, called, looked, forked, forked_not, ended}
use Rattle.eif_grammar_laws.proofs.Terminals.{on_found, on_other}
use Rattle.eif_grammar_laws.proofs.ClassMeanings.{rest_height, spells_routine_rest, RoutineOf}
use Rattle.eif_grammar_laws.proofs.Taken.{head_the, head_name, expect_the, on_the}
use Rattle.eif_grammar_laws.proofs.ClassSteps.{PartsFound, names_head, last, ended_as, ended_at, ended_both, named}
use Rattle.eif_grammar_laws.proofs.NoteComplete.{literal_found, obsolete_found}
use Rattle.eif_grammar_laws.proofs.NameComplete.{colon_names_found, maybe_clients_run}
use Rattle.eif_grammar_laws.proofs.GroupComplete.{formal_arguments_found, locals_found, result_type_found}

-- ---- how routines begin, behind their names, arguments and types

locals_head : (ls : List GroupT) (ts m1 m2 : List Token) → spelled.spells_locals ls ts m1 → the t.Do m1 m2 → (head ts ≡ t.Local) ⊎ (head ts ≡ t.Do)
locals_head ls ts m1 m2 (inl (mid, word, s)) do' = inl (head_the t.Local ts mid word)
locals_head ls ts m1 m2 (inr (m, (empty, e), (none, e'))) do' = inr (ap head (e ∙ e') ∙ head_the t.Do m1 m2 do')

body_head : (k : KindT) (ts rest : List Token) → spelled.spells_body k ts rest → begins_routine (head ts) ≡ true
body_head attribute ts rest s = absurd s
body_head (constant x) ts rest s = absurd s
body_head deferred_body ts rest s = ap begins_routine (head_the t.Deferred ts rest s)
body_head (routine ls is) ts rest (m1, locals, (m2, do', s)) = by_cases (locals_head ls ts m1 m2 locals do')
  where
    by_cases : (head ts ≡ t.Local) ⊎ (head ts ≡ t.Do) → begins_routine (head ts) ≡ true
    by_cases (inl e) = ap begins_routine e
    by_cases (inr e) = ap begins_routine e

conditions_head : (second : Terminal) (es : Exs) (ts mid : List Token) → assertions_behind t.Require (maybe second) es ts mid → begins_routine (head mid) ≡ true
    → begins_routine (head ts) ≡ true
conditions_head second es ts mid (inl (m, word, s)) behind = ap begins_routine (head_the t.Require ts m word)
conditions_head second es ts mid (inr (m, (empty, e), (none, e'))) behind = ap (λ l. begins_routine (head l)) (e ∙ e') ∙ behind

obsolete_head : (ts mid : List Token) → spelled.obsolete ts mid → begins_routine (head mid) ≡ true → begins_routine (head ts) ≡ true
obsolete_head ts mid (inl (m, word, s)) behind = ap begins_routine (head_the t.Obsolete ts m word)
obsolete_head ts mid (inr (none, e)) behind = ap (λ l. begins_routine (head l)) e ∙ behind

pub routine_rest_head : (d : DeclT) (ts rest : List Token) → spells_routine_rest d ts rest → begins_routine (head ts) ≡ true
routine_rest_head d ts rest (m1, old, (m2, pre, (m3, body, s))) =
    obsolete_head ts m1 old (conditions_head t.Else d.preconditions m1 m2 pre (body_head d.kind m2 m3 body))

-- ---- how declarations begin

declaration_head : (d : DeclT) (ts rest : List Token) → spelled.spells_declaration d ts rest → head ts ≡ t.Identifier
declaration_head d ts rest (inl s) = attributes_head d.result_type s
  where
    attributes_head : (ty : Option TypeT) → spelled.attributes_of d ty ts rest → head ts ≡ t.Identifier
    attributes_head None s' = absurd s'
    attributes_head (Some ty) (m0, (empty, e), (m1, names, s')) = ap head e ∙ names_head d.names m0 m1 names
declaration_head d ts rest (inr s) = routine_head d.names s
  where
    routine_head : (ns : List NameAt) → spelled.routine_of d ns ts rest → head ts ≡ t.Identifier
    routine_head [] s' = absurd s'
    routine_head (n ∷ []) (m1, name, s') = head_name n.place n.name ts m1 name
    routine_head (n ∷ m ∷ ns) s' = absurd s'

-- ---- values of attributes

value_run : (ns : List NameAt) (ty : TypeT) (k : KindT) (ts rest : List Token) → spelled.spells_value ns k ts rest → Runs (value_of ns ty) ts (got (attributes ns ty k) rest)
value_run ns ty attribute ts rest (mid, (none, e), s) = on_other none (ended_at (e ∙ no_routine_end ns mid rest s))
  where
    no_routine_end : (xs : List NameAt) (m r : List Token) → spelled.no_routine xs m r → m ≡ r
    no_routine_end [] m r s' = s'
    no_routine_end (n ∷ []) m r s' = s'.1
    no_routine_end (n ∷ n' ∷ ns') m r s' = s'
value_run ns ty (constant x) ts rest (mid, equal, s) = on_the t.Equal ts mid equal (λ n. called (literal_found x mid rest s) ended)
value_run ns ty deferred_body ts rest s = absurd s
value_run ns ty (routine ls is) ts rest s = absurd s

-- behind one name and its type no routine begins
no_routine_here : (n : NameAt) (k : KindT) (ts rest : List Token) → spelled.spells_value (n ∷ []) k ts rest → begins_routine (head ts) ≡ false
no_routine_here n attribute ts rest (mid, (none, e), (begins, e')) = ap (λ l. begins_routine (head l)) e ∙ begins
no_routine_here n (constant x) ts rest (mid, equal, s) = ap begins_routine (head_the t.Equal ts mid equal)
no_routine_here n deferred_body ts rest s = absurd s
no_routine_here n (routine ls is) ts rest s = absurd s

-- a declaration behind its first name
abbrev declared : NameAt → Reader DeclT
declared n = on t.Comma (next (λ _. several n)) (on t.Colon (next (λ _. typed n)) (routine_from n))

declared_found : (n : NameAt) (d : DeclT) (ts mid rest : List Token) → the_name n ts mid → Runs (declared n) mid (got d rest) → Calls (class_goal Goals.declaration) ts (got d rest)
declared_found n d ts mid rest name r = by_rule (named n ts mid name (λ word e. subst (λ x. Runs (declared x) mid (got d rest)) (sym e) r))

module _ (found : PartsFound) where
  -- ---- parts of routines

  pub conditions_found : (first second : Terminal) (es : Exs) (ts rest : List Token) → assertions_behind first (maybe second) es ts rest → heights es ≤ most_height
      → Calls (class_goal (Goals.conditions first second)) ts (got es rest)
  conditions_found first second es ts rest (inl (m1, word, (m2, inl word', s))) low =
      by_rule (on_the first ts m1 word (λ n. on_the second m1 m2 word' (λ n'. last (found.assertions_found es most_height m2 rest s low))))
  conditions_found first second es ts rest (inl (m1, word, (m2, inr (none, e'), s))) low =
      let behind = subst (λ l. Calls (Goals.instruction_goal (Goals.assertions most_height)) l (got es rest)) (sym e') (found.assertions_found es most_height m2 rest s low) in
      by_rule (on_the first ts m1 word (λ n. on_other none (last behind)))
  conditions_found first second es ts rest (inr (m, (empty, e), (none, e'))) low =
      by_rule (on_other (subst (λ l. head l ≢ first) (sym e) none) (ended_both (sym empty) (e ∙ e')))

  pub body_found : (k : KindT) (ts rest : List Token) → spelled.spells_body k ts rest → kind_height k ≤ most_height → Calls (class_goal Goals.body) ts (got k rest)
  body_found attribute ts rest s low = absurd s
  body_found (constant x) ts rest s low = absurd s
  body_found deferred_body ts rest s low = by_rule (on_the t.Deferred ts rest s (λ n. ended))
  body_found (routine ls is) ts rest (m1, locals, (m2, do', s)) low =
      by_rule (on_other (not_deferred (locals_head ls ts m1 m2 locals do')) (called (locals_found found ls ts m1 locals (omega arith))
      (expect_the m1 m2 do' (called (found.compound_found is most_height m2 rest s (omega arith)) ended))))
    where
      not_deferred : (head ts ≡ t.Local) ⊎ (head ts ≡ t.Do) → head ts ≢ t.Deferred
      not_deferred (inl e) = λ f. cc
      not_deferred (inr e) = λ f. cc

  pub routine_rest_found : (n : NameAt) (args : List GroupT) (ty : Option TypeT) (d : DeclT) (ts rest : List Token) → RoutineOf n args ty d → spells_routine_rest d ts rest
      → rest_height d ≤ most_height → Calls (class_goal (Goals.routine_rest n args ty)) ts (got d rest)
  routine_rest_found n args ty d ts rest of (m1, old, (m2, pre, (m3, body, (m4, post, word)))) low =
      by_rule (called (obsolete_found ts m1 old) (called (conditions_found t.Require t.Else d.preconditions m1 m2 pre (omega arith)) (called (body_found d.kind m2 m3 body (omega arith))
      (called (conditions_found t.Ensure t.Then d.postconditions m3 m4 post (omega arith)) (expect_the m4 rest word
      (ended_as (rw (← of.name, ← of.formal_arguments, ← of.result_type) refl)))))))

  -- ---- declarations

  routine_run : (n : NameAt) (args : List GroupT) (ty : Option TypeT) (d : DeclT) (ts m1 m2 rest : List Token) → RoutineOf n args ty d
      → Calls (class_goal Goals.formal_arguments) ts (got args m1) → Calls (class_goal Goals.result_type) m1 (got ty m2) → spells_routine_rest d m2 rest
      → rest_height d ≤ most_height → head ts ≢ t.Comma → head ts ≢ t.Colon → Runs (declared n) ts (got d rest)
  routine_run n args ty d ts m1 m2 rest of ca ct s low no_comma no_colon =
      on_other no_comma (on_other no_colon (called ca (called ct (last (routine_rest_found n args ty d m2 rest of s low)))))

  -- by whether there are arguments and a type
  routine_by : (n : NameAt) (args : List GroupT) (ty : Option TypeT) (d : DeclT) (ts m1 m2 rest : List Token) → RoutineOf n args ty d
      → spelled.spells_formal_arguments args ts m1 → spelled.spells_result ty m1 m2 → spells_routine_rest d m2 rest
      → highest group_height args ≤ most_height → written_height ty ≤ most_height → rest_height d ≤ most_height → Runs (declared n) ts (got d rest)
  routine_by n [] None d ts m1 m2 rest of (none, e) (none', e') s low1 low2 low =
      let begins = ap (λ l. begins_routine (head l)) (e ∙ e') ∙ routine_rest_head d m2 rest s in
      let no_comma : head ts ≢ t.Comma = λ f. let x = ap begins_routine f in cc in
      let no_colon : head ts ≢ t.Colon = λ f. let x = ap begins_routine f in cc in
      routine_run n [] None d ts m1 m2 rest of (formal_arguments_found found [] ts m1 (none, e) low1) (result_type_found found None m1 m2 (none', e') low2) s low no_comma no_colon
  routine_by n [] (Some ty) d ts m1 m2 rest of (none, e) (m, colon, typed') s low1 low2 low =
      let here : the t.Colon ts m = subst (λ l. the t.Colon l m) (sym e) colon in
      let first = head_the t.Colon ts m here in
      let no_comma : head ts ≢ t.Comma = λ f. cc in
      on_other no_comma (on_the t.Colon ts m here (λ c. called (found.type_found ty most_height m m2 typed' low2)
      (looked (forked (routine_rest_head d m2 rest s) (last (routine_rest_found n [] (Some ty) d m2 rest of s low))))))
  routine_by n (g ∷ gs) ty d ts m1 m2 rest of arguments result s low1 low2 low =
      let first = head_the t.OpenParenthesis ts arguments.0 arguments.1 in
      let no_comma : head ts ≢ t.Comma = λ f. cc in
      let no_colon : head ts ≢ t.Colon = λ f. cc in
      routine_run n (g ∷ gs) ty d ts m1 m2 rest of (formal_arguments_found found (g ∷ gs) ts m1 arguments low1) (result_type_found found ty m1 m2 result low2) s low no_comma no_colon

  routine_declared : (d : DeclT) (ns : List NameAt) (ts rest : List Token) → d.names ≡ ns → spelled.routine_of d ns ts rest → decl_height d ≤ most_height
      → Calls (class_goal Goals.declaration) ts (got d rest)
  routine_declared d [] ts rest is_names s low = absurd s
  routine_declared d (n ∷ n' ∷ ns) ts rest is_names s low = absurd s
  routine_declared d (n ∷ []) ts rest is_names (m1, name, (m2, arguments, (m3, result, s))) low =
      declared_found n d ts m1 rest name
      (routine_by n d.arguments d.result_type d m1 m2 m3 rest (record { name = is_names; formal_arguments = refl; result_type = refl }) arguments result s
      (omega arith) (omega arith) (omega arith))

  attributes_declared : (ns : List NameAt) (ty : TypeT) (k : KindT) (ts m1 m2 m3 rest : List Token) → Spelling.names ns ts m1 → the t.Colon m1 m2 → spells_type ty m2 m3
      → type_height ty ≤ most_height → spelled.spells_value ns k m3 rest → Calls (class_goal Goals.declaration) ts (got (attributes ns ty k) rest)
  attributes_declared [] ty k ts m1 m2 m3 rest s colon typed' low value = absurd s
  attributes_declared (n ∷ []) ty k ts m1 m2 m3 rest (m, name, (none, e)) colon typed' low value =
      let here : the t.Colon m m2 = subst (λ l. the t.Colon l m2) (sym e) colon in
      declared_found n (attributes (n ∷ []) ty k) ts m rest name (on_other none (on_the t.Colon m m2 here (λ c. called (found.type_found ty most_height m2 m3 typed' low)
      (looked (forked_not (no_routine_here n k m3 rest value) (value_run (n ∷ []) ty k m3 rest value))))))
  attributes_declared (n ∷ n' ∷ ns) ty k ts m1 m2 m3 rest (m, name, (m', comma, (m'', name', more))) colon typed' low value =
      declared_found n (attributes (n ∷ n' ∷ ns) ty k) ts m rest name (on_the t.Comma m m' comma (λ c. named n' m' m'' name' (λ word e.
      called (colon_names_found ns m'' m1 m2 more colon) (called (found.type_found ty most_height m2 m3 typed' low)
      (subst (λ x. Runs (value_of (n ∷ x ∷ ns) ty) m3 (got (attributes (n ∷ n' ∷ ns) ty k) rest)) (sym e) (value_run (n ∷ n' ∷ ns) ty k m3 rest value))))))

  attributes_found : (d : DeclT) (ty : Option TypeT) (ts rest : List Token) → d.result_type ≡ ty → spelled.attributes_of d ty ts rest → decl_height d ≤ most_height
      → Calls (class_goal Goals.declaration) ts (got d rest)
  attributes_found d None ts rest is_type s low = absurd s
  attributes_found d (Some ty) ts rest is_type (m0, ((no_arguments, no_before, no_after), e), (m1, names, (m2, colon, (m3, typed', value)))) low =
      let same : attributes d.names ty d.kind ≡ d = rw (no_arguments, no_before, no_after, is_type) refl in
      let typed_low : type_height ty ≤ most_height = omega (arith, ap written_height is_type) in
      subst (λ x. Calls (class_goal Goals.declaration) ts (got x rest)) same
      (attributes_declared d.names ty d.kind ts m1 m2 m3 rest (subst (λ l. Spelling.names d.names l m1) (sym e) names) colon typed' typed_low value)

  pub declaration_found : (d : DeclT) (ts rest : List Token) → spelled.spells_declaration d ts rest → decl_height d ≤ most_height → Calls (class_goal Goals.declaration) ts (got d rest)
  declaration_found d ts rest (inl s) low = attributes_found d d.result_type ts rest refl s low
  declaration_found d ts rest (inr s) low = routine_declared d d.names ts rest refl s low

  pub declarations_found : (ds : List DeclT) (ts rest : List Token) → spelled.spells_declarations ds ts rest → highest decl_height ds ≤ most_height
      → Calls (class_goal Goals.declarations) ts (got ds rest)
  declarations_found [] ts rest (none, e) low = by_rule (on_other none (ended_at e))
  declarations_found (d ∷ ds) ts rest (m1, s, (m2, semis, more)) low =
      by_rule (on_found (declaration_head d ts m1 s) (called (declaration_found d ts m1 s (omega arith)) (called (found.semis_found m1 m2 semis)
      (called (declarations_found ds m2 rest more (omega arith)) ended))))

  pub features_found : (fs : List FeaturesT) (ts rest : List Token) → spelled.spells_features fs ts rest → highest features_height fs ≤ most_height
      → Calls (class_goal Goals.features) ts (got fs rest)
  features_found [] ts rest (none, e) low = by_rule (on_other none (ended_at e))
  features_found (f ∷ fs) ts rest (m1, word, (m2, clients, (m3, declarations, s))) low =
      by_rule (on_the t.Feature ts m1 word (λ n. maybe_clients_run f.clients features_of m1 m2 clients
      (called (declarations_found f.decls m2 m3 declarations (omega arith)) (called (features_found fs m3 rest s (omega arith)) ended))))

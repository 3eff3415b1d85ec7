-- Names, clients, renames and exports that are spelled are found.
use Rattle.std.proofs.Common.{◌≡◌, ◌≢◌, List, [], ◌∷◌, Option, Some, None, refl, ap, sym, ◌∙◌, subst, inl, inr}
use Rattle.eif_base.specs.declared.Place.{Place}
use Rattle.eif_tree.specs.declared.NameAt.{NameAt}
use Rattle.eif_tree.specs.declared.RenamePair.{RenamePair}
use Rattle.eif_tree.specs.Tree.{ClientsT, no_clients, ExportT}
use Rattle.eif_grammar.specs.declared.terminal.Terminal.TheVariants as t
use Rattle.eif_grammar.specs.Tokens.{Token}
use Rattle.eif_grammar.specs.Spelling
use Rattle.eif_grammar.specs.Spelling.{head, the, the_name, semicolons}
use Rattle.eif_grammar.specs.SpelledClasses as spelled
use Rattle.eif_grammar.specs.Goals
use Rattle.eif_grammar.specs.Goals.{class_goal}
use Rattle.eif_grammar.specs.Reader.{Reader, call, on}
use Rattle.eif_grammar.specs.ClassRules.{these_clients}
use Rattle.eif_grammar.specs.Outcomes.{Outcome, got, Runs, Calls}
use Rattle.eif_grammar_laws.proofs.Readers.{by_rule, called, ended}
use Rattle.eif_grammar_laws.proofs.Terminals.{on_found, on_other, one_is}
use Rattle.eif_grammar_laws.proofs.Taken.{head_the, expect_the, on_the}
use Rattle.eif_grammar_laws.proofs.ClassSteps.{PartsFound, names_head, last, ended_as, ended_at, ended_both, takes, named}

-- ---- names

names_step : (n : NameAt) (ns : List NameAt) (ts mid rest : List Token) → the_name n ts mid → Calls (class_goal Goals.more_names) mid (got ns rest)
    → Calls (class_goal Goals.names) ts (got (n ∷ ns) rest)
names_step n ns ts mid rest s c = by_rule (named n ts mid s (λ word e. called c (ended_as (ap (λ x. x ∷ ns) e))))

pub more_names_found : (ns : List NameAt) (ts rest : List Token) → Spelling.more_names ns ts rest → Calls (class_goal Goals.more_names) ts (got ns rest)
more_names_found [] ts rest (none, e) = by_rule (on_other none (ended_at e))
more_names_found (n ∷ ns) ts rest (m1, comma, (m2, name, s)) =
    by_rule (on_the t.Comma ts m1 comma (λ c. last (names_step n ns m1 m2 rest name (more_names_found ns m2 rest s))))

pub names_found : (ns : List NameAt) (ts rest : List Token) → Spelling.names ns ts rest → Calls (class_goal Goals.names) ts (got ns rest)
names_found [] ts rest s = absurd s
names_found (n ∷ ns) ts rest (mid, name, s) = names_step n ns ts mid rest name (more_names_found ns mid rest s)

pub colon_names_found : (ns : List NameAt) (ts mid rest : List Token) → Spelling.more_names ns ts mid → the t.Colon mid rest
    → Calls (class_goal Goals.colon_names) ts (got ns rest)
colon_names_found [] ts mid rest (none, e) colon = by_rule (on_other none (expect_the ts rest (subst (λ l. the t.Colon l rest) (sym e) colon) ended))
colon_names_found (n ∷ ns) ts mid rest (m1, comma, (m2, name, s)) colon =
    by_rule (on_the t.Comma ts m1 comma (λ c. named n m1 m2 name (λ word e. called (colon_names_found ns m2 mid rest s colon) (ended_as (ap (λ x. x ∷ ns) e)))))

-- ---- clients

these_found : (ns : List NameAt) (ts m1 m2 rest : List Token) → the t.OpenBrace ts m1 → spelled.maybe_names ns m1 m2 → the t.CloseBrace m2 rest
    → Calls (class_goal Goals.clients) ts (got (these_clients ns) rest)
these_found [] ts m1 m2 rest open' (none, e) close =
    by_rule (expect_the ts m1 open' (on_the t.CloseBrace m1 rest (subst (λ l. the t.CloseBrace l rest) (sym e) close) (λ c. ended)))
these_found (n ∷ ns) ts m1 m2 rest open' s close =
    let first = names_head (n ∷ ns) m1 m2 s in
    let filled : head m1 ≢ t.CloseBrace = λ e. cc in
    by_rule (expect_the ts m1 open' (on_other filled (called (names_found (n ∷ ns) m1 m2 s) (expect_the m2 rest close ended))))

pub clients_found : (c : ClientsT) (ts rest : List Token) → spelled.spells_clients c ts rest → Calls (class_goal Goals.clients) ts (got c rest)
clients_found c ts rest (m0, (stated, e), (m1, open', (m2, s, close))) =
    let same : these_clients c.names ≡ c = ap (λ b. record { stated = b; names = c.names }) (sym stated) in
    let all = these_found c.names ts m1 m2 rest (subst (λ l. the t.OpenBrace l m1) (sym e) open') s close in
    subst (λ x. Calls (class_goal Goals.clients) ts (got x rest)) same all

clients_head : (c : ClientsT) (ts rest : List Token) → spelled.spells_clients c ts rest → head ts ≡ t.OpenBrace
clients_head c ts rest (m0, (stated, e), (m1, open', s)) = ap head e ∙ head_the t.OpenBrace m0 m1 open'

-- clients, or none, before what goes on by them
pub maybe_clients_run : {A : Type 0} (c : ClientsT) (k : ClientsT → Reader A) (ts mid : List Token) {o : Outcome A} → spelled.maybe_clients c ts mid → Runs (k c) mid o
    → Runs (on t.OpenBrace (call (class_goal Goals.clients) k) (k no_clients)) ts o
maybe_clients_run c k ts mid {o} (inl s) r = on_found (clients_head c ts mid s) (called (clients_found c ts mid s) r)
maybe_clients_run c k ts mid {o} (inr (m, ((unstated, empty), e), (none, e'))) r =
    let same : c ≡ no_clients = rw (unstated, empty) refl in
    on_other (subst (λ l. head l ≢ t.OpenBrace) (sym e) none) (subst (λ x. Runs (k x) ts o) same (subst (λ l. Runs (k c) l o) (sym (e ∙ e')) r))

-- ---- renames

rename_is : (a b : NameAt) (r : RenamePair) → a ≡ r.old_name → b ≡ r.new_name → ◌≡◌ {A = RenamePair} (record { old_name = a; new_name = b }) r
rename_is a b r e f = rw (e, f) refl

pub rename_found : (r : RenamePair) (ts rest : List Token) → spelled.spells_rename r ts rest → Calls (class_goal Goals.rename) ts (got r rest)
rename_found r ts rest (m1, old, (m2, word, new)) =
    by_rule (named r.old_name ts m1 old (λ n e. expect_the m1 m2 word (named r.new_name m2 rest new (λ n' e'. ended_as (rename_is _ _ r e e')))))

renames_step : (r : RenamePair) (rs : List RenamePair) (ts mid rest : List Token) → spelled.spells_rename r ts mid
    → Calls (class_goal Goals.more_renames) mid (got rs rest) → Calls (class_goal Goals.renames) ts (got (r ∷ rs) rest)
renames_step r rs ts mid rest s c = by_rule (called (rename_found r ts mid s) (called c ended))

more_renames_found : (rs : List RenamePair) (ts rest : List Token) → spelled.more_renames rs ts rest → Calls (class_goal Goals.more_renames) ts (got rs rest)
more_renames_found [] ts rest (none, e) = by_rule (on_other none (ended_at e))
more_renames_found (r ∷ rs) ts rest (m1, comma, (m2, s, more)) =
    by_rule (on_the t.Comma ts m1 comma (λ c. last (renames_step r rs m1 m2 rest s (more_renames_found rs m2 rest more))))

pub renames_found : (rs : List RenamePair) (ts rest : List Token) → spelled.spells_renames rs ts rest → Calls (class_goal Goals.renames) ts (got rs rest)
renames_found [] ts rest s = absurd s
renames_found (r ∷ rs) ts rest (mid, s, more) = renames_step r rs ts mid rest s (more_renames_found rs mid rest more)

-- ---- exports

exported_found : (c : ClientsT) (all : Option Place) (ns : List NameAt) (ts mid rest : List Token) → spelled.spells_clients c ts mid
    → spelled.spells_exported all ns mid rest → Calls (class_goal Goals.export) ts (got (record { clients = c; all = all; names = ns }) rest)
exported_found c (Some p) ns ts mid rest s (m1, word, (empty, e)) =
    let n = one_is (λ n. (n.terminal ≡ t.All) × (n.place ≡ p)) mid m1 word in
    by_rule (called (clients_found c ts mid s) (on_found (ap head n.1 ∙ n.2.0)
    (takes (λ n. (n.terminal ≡ t.All) × (n.place ≡ p)) mid m1 word (λ n q. ended_both (rw (q.1, empty) refl) e))))
exported_found c None ns ts mid rest s names =
    let first = names_head ns mid rest names in
    let listed : head mid ≢ t.All = λ e. cc in
    by_rule (called (clients_found c ts mid s) (on_other listed (called (names_found ns mid rest names) ended)))

pub export_found : (x : ExportT) (ts rest : List Token) → spelled.spells_export x ts rest → Calls (class_goal Goals.export) ts (got x rest)
export_found x ts rest (mid, s, exported) = exported_found x.clients x.all x.names ts mid rest s exported

module _ (found : PartsFound) where
  exports_step : (x : ExportT) (xs : List ExportT) (ts m1 m2 rest : List Token) → spelled.spells_export x ts m1 → semicolons m1 m2
      → Calls (class_goal Goals.more_exports) m2 (got xs rest) → Calls (class_goal Goals.exports) ts (got (x ∷ xs) rest)
  exports_step x xs ts m1 m2 rest s semis c = by_rule (called (export_found x ts m1 s) (called (found.semis_found m1 m2 semis) (called c ended)))

  more_exports_found : (xs : List ExportT) (ts rest : List Token) → spelled.more_exports xs ts rest → Calls (class_goal Goals.more_exports) ts (got xs rest)
  more_exports_found [] ts rest (none, e) = by_rule (on_other none (ended_at e))
  more_exports_found (x ∷ xs) ts rest (m1, s, (m2, semis, more)) =
      by_rule (on_found (clients_head x.clients ts s.0 s.1) (last (exports_step x xs ts m1 m2 rest s semis (more_exports_found xs m2 rest more))))

  pub exports_found : (xs : List ExportT) (ts rest : List Token) → spelled.spells_exports xs ts rest → Calls (class_goal Goals.exports) ts (got xs rest)
  exports_found [] ts rest s = absurd s
  exports_found (x ∷ xs) ts rest (m1, s, (m2, semis, more)) = exports_step x xs ts m1 m2 rest s semis (more_exports_found xs m2 rest more)

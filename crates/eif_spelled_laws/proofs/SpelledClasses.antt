-- Class texts that tokens spell are as the grammar has them.
use Rattle.std.proofs.Common.{◌≡◌, ℕ, zero, suc, Bool, true, false, ◌==◌, if◌then◌else◌, List, [], ◌∷◌, length, Option, Some, None, ap, ◌∙◌, arith}
use Rattle.std.proofs.lemmas.Bool.Decides.{nat_tests}
use Rattle.eif_base.specs.declared.Place.{Place}
use Rattle.eif_tree.specs.declared.NameAt.{NameAt}
use Rattle.eif_tree.specs.declared.RenamePair.{RenamePair}
use Rattle.eif_tree.specs.Tree.{TypeT, FormalT, ExportT, ParentT, CreatorsT, ClassT}
use Rattle.eif_grammar.specs.declared.terminal.Terminal.TheVariants as t
use Rattle.eif_grammar.specs.SpelledClasses as spelled
use Rattle.eif_grammar.specs.SpelledClasses.{Clause, rename_clause, export_clause, undefine_clause, redefine_clause, select_clause, count_of, IsOrderOf}
use Rattle.eif_spelled_trees.specs.SpelledTrees.{Each, IsName, IsSpelledClass}
use Rattle.eif_spelled_laws.specs.SpelledTexts.{ClassTextsAreSpelled}
use Rattle.eif_spelled_laws.proofs.CutTokens.{tokens_are_cut}
use Rattle.eif_spelled_laws.proofs.Eaches.{each_none, each_and}
use Rattle.eif_spelled_laws.proofs.Keeping.{Gives, Keeps, told, kept, both, ◌▸◌, first, either, some_of, nothing, stays, never, the, the_at, name_at, the_name, semicolons, names}
use Rattle.eif_spelled_laws.proofs.WrittenExpressions.{type_tree, class_type}
use Rattle.eif_spelled_laws.proofs.WrittenInstructions.{assertions_behind}
use Rattle.eif_spelled_laws.proofs.SpelledDeclarations.{literal, obsolete, clients, maybe_clients, features}

-- ---- notes, formals and creators

note_item : Keeps spelled.note_item
note_item = either (the t.Identifier) (some_of literal)

more_note_items : (n : ℕ) → Keeps (spelled.more_note_items n)
more_note_items zero = stays
more_note_items (suc n) = the t.Comma ▸ note_item ▸ more_note_items n

note_entries : (ns : List ℕ) → Keeps (spelled.note_entries ns)
note_entries [] = stays
note_entries (n ∷ ns) =
    the t.Identifier ▸ the t.Colon ▸ note_item ▸ more_note_items n ▸ semicolons ▸ note_entries ns

notes : Keeps spelled.notes
notes = either (the t.Note ▸ some_of note_entries) stays

constraint : (ty : Option TypeT) → Keeps (spelled.spells_constraint ty)
constraint None = stays
constraint (Some ty) = the t.Arrow ▸ type_tree ty

formal : (f : FormalT) → Keeps (spelled.spells_formal f)
formal f = name_at f.place f.name ▸ constraint f.constraint

more_formals : (fs : List FormalT) → Keeps (spelled.more_formals fs)
more_formals [] = stays
more_formals (f ∷ fs) = the t.Comma ▸ formal f ▸ more_formals fs

formals : (fs : List FormalT) → Keeps (spelled.spells_formals fs)
formals [] = stays
formals (f ∷ fs) = the t.OpenBracket ▸ formal f ▸ more_formals fs ▸ the t.CloseBracket

creators : (cs : List CreatorsT) → Keeps (spelled.spells_creators cs)
creators [] = stays
creators (c ∷ cs) = the t.Create ▸ maybe_clients c.clients ▸ names c.names ▸ creators cs

-- ---- clauses of an adaptation

abbrev IsRenamed : RenamePair → Type 0
IsRenamed r = IsName r.new_name

rename : (r : RenamePair) → Gives (spelled.spells_rename r) (IsRenamed r)
rename r = the_name r.old_name ▸ the t.As ▸ the_name r.new_name

more_renames : (rs : List RenamePair) → Gives (spelled.more_renames rs) (Each IsRenamed rs)
more_renames [] = told (λ x. each_none IsRenamed) stays
more_renames (r ∷ rs) = the t.Comma ▸ told (λ x. each_and IsRenamed r rs x.0 x.1) (both (rename r) (more_renames rs))

renames : (rs : List RenamePair) → Gives (spelled.spells_renames rs) (Each IsRenamed rs)
renames [] = never
renames (r ∷ rs) = told (λ x. each_and IsRenamed r rs x.0 x.1) (both (rename r) (more_renames rs))

exported : (o : Option Place) (ns : List NameAt) → Keeps (spelled.spells_exported o ns)
exported (Some p) ns = the_at t.All p ▸ stays
exported None ns = kept (names ns)

export : (x : ExportT) → Keeps (spelled.spells_export x)
export x = clients x.clients ▸ exported x.all x.names

more_exports : (xs : List ExportT) → Keeps (spelled.more_exports xs)
more_exports [] = stays
more_exports (x ∷ xs) = export x ▸ semicolons ▸ more_exports xs

exports : (xs : List ExportT) → Keeps (spelled.spells_exports xs)
exports [] = never
exports (x ∷ xs) = export x ▸ semicolons ▸ more_exports xs

-- what a clause tells: a rename clause that the new names are names
abbrev Tells : ParentT → Clause → Type 0
Tells p rename_clause = Each IsRenamed p.renames
Tells p _ = Unit {0}

clause : (p : ParentT) (c : Clause) → Gives (spelled.spells_clause p c) (Tells p c)
clause p rename_clause = the t.Rename ▸ renames p.renames
clause p export_clause = the t.Export ▸ exports p.exports
clause p undefine_clause = the t.Undefine ▸ kept (names p.undefines)
clause p redefine_clause = the t.Redefine ▸ kept (names p.redefines)
clause p select_clause = the t.Select ▸ kept (names p.selects)

-- where a rename clause is among them
abbrev TellsIn : ParentT → List Clause → Type 0
TellsIn p cs = count_of rename_clause cs ≡ 1 → Each IsRenamed p.renames

one_more : (p : ParentT) (c : Clause) (cs : List Clause) → Tells p c → TellsIn p cs → TellsIn p (c ∷ cs)
one_more p rename_clause cs h more = λ e. h
one_more p export_clause cs h more = more
one_more p undefine_clause cs h more = more
one_more p redefine_clause cs h more = more
one_more p select_clause cs h more = more

no_clause : (p : ParentT) → TellsIn p []
no_clause p e = absurd (omega arith)

clauses : (p : ParentT) (cs : List Clause) → Gives (spelled.spells_clauses p cs) (TellsIn p cs)
clauses p [] = told (λ x. no_clause p) nothing
clauses p (c ∷ cs) = told (λ x. one_more p c cs x.0 x.1) (both (clause p c) (clauses p cs))

adaptation : (p : ParentT) (cs : List Clause) → Gives (spelled.spells_adaptation p cs) (TellsIn p cs)
adaptation p [] = told (λ x. no_clause p) stays
adaptation p (c ∷ cs) = first (clauses p (c ∷ cs)) (the t.End)

-- ---- parents

-- a rename clause stands there if there are renames
by_order : (rs : List RenamePair) (n : ℕ) → n ≡ (if length rs == 0 then 0 else 1) → (n ≡ 1 → Each IsRenamed rs)
    → Each IsRenamed rs
by_order [] n e h = each_none IsRenamed
by_order (r ∷ rs) n e h =
    let some : (suc (length rs) == 0) ≡ false = grind (arith, nat_tests) in
    h (e ∙ ap (λ b. if b then 0 else 1) some)

abbrev IsParent : ParentT → Type 0
IsParent p = Each IsRenamed p.renames

adapted : (p : ParentT)
    → Gives (λ ts rest. (order : List Clause) × IsOrderOf p order × spelled.spells_adaptation p order ts rest)
    (IsParent p)
adapted p = record {
  read = λ ts rest h cut.
      let r = (adaptation p h.0).read ts rest h.2 cut in
      (r.0, by_order p.renames (count_of rename_clause h.0) (h.1 rename_clause) r.1);
}

parent : (p : ParentT) → Gives (spelled.spells_parent p) (IsParent p)
parent p = class_type p.parent ▸ adapted p

more_parents : (ps : List ParentT) → Gives (spelled.more_parents ps) (Each IsParent ps)
more_parents [] = told (λ x. each_none IsParent) stays
more_parents (p ∷ ps) = told (λ x. each_and IsParent p ps x.0 x.1) (both (parent p) (semicolons ▸ more_parents ps))

parents : (ps : List ParentT) → Gives (spelled.spells_parents ps) (Each IsParent ps)
parents [] = told (λ x. each_none IsParent) stays
parents (p ∷ ps) =
    the t.Inherit ▸ told (λ x. each_and IsParent p ps x.0 x.1) (both (parent p) (semicolons ▸ more_parents ps))

-- ---- the class

deferred_mark : (b : Bool) → Keeps (spelled.spells_deferred b)
deferred_mark true = the t.Deferred
deferred_mark false = stays

class_text : (c : ClassT) → Gives (spelled.spells_class c) (IsSpelledClass c)
class_text c =
    told (λ x. record { declared = x.1; renamed = x.0 })
    (notes ▸ deferred_mark c.is_deferred ▸ the t.Class ▸ name_at c.place c.name ▸ formals c.formals ▸ obsolete
    ▸ both (parents c.parents) (creators c.creators
    ▸ first (features c.features) (assertions_behind t.Invariant nothing c.invariants ▸ notes ▸ the t.End)))

pub texts_are_spelled : ClassTextsAreSpelled
texts_are_spelled file text tokens c cut spells =
    ((class_text c).read tokens [] spells (tokens_are_cut file text tokens cut)).1

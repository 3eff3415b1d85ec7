-- Which tokens spell a class text.
use Rattle.std.specs.Prelude.{◌≡◌, ◌≢◌, ℕ, zero, suc, Bool, true, false, ◌==◌, if◌then◌else◌, pos, ◌-ℤ◌, List, [], ◌∷◌, length, Option, Some, None}
use Rattle.eif_base.specs.declared.Place.{Place}
use Rattle.eif_tree.specs.declared.NameAt.{NameAt}
use Rattle.eif_tree.specs.declared.RenamePair.{RenamePair}
use Rattle.eif_tree.specs.declared.Literal.{Literal}
use Rattle.eif_tree.specs.declared.Literal.TheVariants as lit
use Rattle.eif_tree.specs.Tree.{TypeT, no_exs, GroupT, FormalT, ClientsT, ExportT, ParentT, CreatorsT, KindT, attribute, constant, deferred_body, routine, DeclT, FeaturesT, ClassT}
use Rattle.eif_grammar.specs.declared.terminal.Terminal.TheVariants as t
use Rattle.eif_grammar.specs.Literals.{integer_value, character_value, string_value}
use Rattle.eif_grammar.specs.Forms.{begins_routine, begins_clause}
use Rattle.eif_grammar.specs.Spelling.{Spelling, ◌⨟◌, ◌or◌, given, nothing, before, never, one, the, the_at, name_at, the_name, maybe, semicolons, names}
use Rattle.eif_grammar.specs.SpelledTypes.{spells_type, spells_class_type}
use Rattle.eif_grammar.specs.SpelledInstructions.{assertions_behind, spells_compound}

-- ---- notes, which are in no tree

--   Literal = ["+" | "-"] Integer | Character | String | "True" | "False"
abbrev pub spells_literal : Literal → Spelling
spells_literal (lit.Int z) =
    maybe t.Plus ⨟ one (λ token. (token.terminal ≡ t.Integer) × (integer_value token.text ≡ z))
    or the t.Minus ⨟ one (λ token. (token.terminal ≡ t.Integer) × (pos 0 -ℤ integer_value token.text ≡ z))
spells_literal (lit.Char b) = one (λ token. (token.terminal ≡ t.Character) × (character_value token.text ≡ b))
spells_literal (lit.Text bytes) = one (λ token. (token.terminal ≡ t.StringText) × (string_value token.text ≡ bytes))
spells_literal (lit.Bool true) = the t.True
spells_literal (lit.Bool false) = the t.False

--   Note_item = Id | Literal
abbrev pub note_item : Spelling
note_item = the t.Identifier or (λ tokens rest. (x : Literal) × spells_literal x tokens rest)

-- so many more items, with commas before them
abbrev pub more_note_items : ℕ → Spelling
more_note_items zero = before (λ x. x ≢ t.Comma)
more_note_items (suc n) = the t.Comma ⨟ note_item ⨟ more_note_items n

-- notes, each with so many items behind its first
abbrev pub note_entries : List ℕ → Spelling
note_entries [] = before (λ x. x ≢ t.Identifier)
note_entries (n ∷ ns) = the t.Identifier ⨟ the t.Colon ⨟ note_item ⨟ more_note_items n ⨟ semicolons ⨟ note_entries ns

--   Notes = "note" {Id ":" Note_item {"," Note_item} {";"}}
abbrev pub notes : Spelling
notes = (the t.Note ⨟ (λ tokens rest. (ns : List ℕ) × note_entries ns tokens rest)) or before (λ x. x ≢ t.Note)

--   Obsolete = "obsolete" String
abbrev pub obsolete : Spelling
obsolete = (the t.Obsolete ⨟ the t.StringText) or before (λ x. x ≢ t.Obsolete)

-- ---- the head of a class

--   Formal = Id ["->" Type]
abbrev pub spells_constraint : Option TypeT → Spelling
spells_constraint None = before (λ x. x ≢ t.Arrow)
spells_constraint (Some ty) = the t.Arrow ⨟ spells_type ty

abbrev pub spells_formal : FormalT → Spelling
spells_formal f = name_at f.place f.name ⨟ spells_constraint f.constraint

abbrev pub more_formals : List FormalT → Spelling
more_formals [] = before (λ x. x ≢ t.Comma)
more_formals (f ∷ fs) = the t.Comma ⨟ spells_formal f ⨟ more_formals fs

--   Formals = "[" Formal {"," Formal} "]"
abbrev pub spells_formals : List FormalT → Spelling
spells_formals [] = before (λ x. x ≢ t.OpenBracket)
spells_formals (f ∷ fs) = the t.OpenBracket ⨟ spells_formal f ⨟ more_formals fs ⨟ the t.CloseBracket

-- ---- clients

-- names, or none
abbrev pub maybe_names : List NameAt → Spelling
maybe_names [] = before (λ x. x ≢ t.Identifier)
maybe_names (n ∷ ns) = names (n ∷ ns)

--   Clients = "{" [Ids] "}"
abbrev pub spells_clients : ClientsT → Spelling
spells_clients c = given (c.stated ≡ true) ⨟ the t.OpenBrace ⨟ maybe_names c.names ⨟ the t.CloseBrace

abbrev pub maybe_clients : ClientsT → Spelling
maybe_clients c = spells_clients c or (given ((c.stated ≡ false) × (c.names ≡ [])) ⨟ before (λ x. x ≢ t.OpenBrace))

-- ---- parents

abbrev pub spells_rename : RenamePair → Spelling
spells_rename r = the_name r.old_name ⨟ the t.As ⨟ the_name r.new_name

abbrev pub more_renames : List RenamePair → Spelling
more_renames [] = before (λ x. x ≢ t.Comma)
more_renames (r ∷ rs) = the t.Comma ⨟ spells_rename r ⨟ more_renames rs

abbrev pub spells_renames : List RenamePair → Spelling
spells_renames [] = never
spells_renames (r ∷ rs) = spells_rename r ⨟ more_renames rs

--   Export = Clients ("all" | Ids)
abbrev pub spells_exported : Option Place → List NameAt → Spelling
spells_exported (Some p) ns = the_at t.All p ⨟ given (ns ≡ [])
spells_exported None ns = names ns

abbrev pub spells_export : ExportT → Spelling
spells_export x = spells_clients x.clients ⨟ spells_exported x.all x.names

abbrev pub more_exports : List ExportT → Spelling
more_exports [] = before (λ x. x ≢ t.OpenBrace)
more_exports (x ∷ xs) = spells_export x ⨟ semicolons ⨟ more_exports xs

abbrev pub spells_exports : List ExportT → Spelling
spells_exports [] = never
spells_exports (x ∷ xs) = spells_export x ⨟ semicolons ⨟ more_exports xs

-- the clauses of an adaptation
pub data Clause : Type 0 where
  rename_clause : Clause
  export_clause : Clause
  undefine_clause : Clause
  redefine_clause : Clause
  select_clause : Clause

-- how much the clause of that kind says
abbrev pub clause_length : ParentT → Clause → ℕ
clause_length p rename_clause = length p.renames
clause_length p export_clause = length p.exports
clause_length p undefine_clause = length p.undefines
clause_length p redefine_clause = length p.redefines
clause_length p select_clause = length p.selects

--   Clause = "rename" Id "as" Id {"," Id "as" Id}
--          | "export" Export {{";"} Export} {";"}
--          | ("undefine" | "redefine" | "select") Ids
abbrev pub spells_clause : ParentT → Clause → Spelling
spells_clause p rename_clause = the t.Rename ⨟ spells_renames p.renames
spells_clause p export_clause = the t.Export ⨟ spells_exports p.exports
spells_clause p undefine_clause = the t.Undefine ⨟ names p.undefines
spells_clause p redefine_clause = the t.Redefine ⨟ names p.redefines
spells_clause p select_clause = the t.Select ⨟ names p.selects

abbrev pub spells_clauses : ParentT → List Clause → Spelling
spells_clauses p [] = nothing
spells_clauses p (c ∷ cs) = spells_clause p c ⨟ spells_clauses p cs

abbrev pub same_clause : Clause → Clause → Bool
same_clause rename_clause rename_clause = true
same_clause export_clause export_clause = true
same_clause undefine_clause undefine_clause = true
same_clause redefine_clause redefine_clause = true
same_clause select_clause select_clause = true
same_clause _ _ = false

abbrev pub count_of : Clause → List Clause → ℕ
count_of c [] = 0
count_of c (d ∷ ds) = if same_clause c d then suc (count_of c ds) else count_of c ds

-- each kind of clause that says something stands once, in any order, and no other
abbrev pub IsOrderOf : ParentT → List Clause → Type 0
IsOrderOf p order = (c : Clause) → count_of c order ≡ (if clause_length p c == 0 then 0 else 1)

--   Adaptation = Clause {Clause} "end"
abbrev pub spells_adaptation : ParentT → List Clause → Spelling
spells_adaptation p [] = before (λ x. begins_clause x ≡ false)
spells_adaptation p (c ∷ cs) = spells_clauses p (c ∷ cs) ⨟ the t.End

--   Parent = Class_type [Adaptation]
abbrev pub spells_parent : ParentT → Spelling
spells_parent p = spells_class_type p.parent ⨟ (λ tokens rest. (order : List Clause) × IsOrderOf p order × spells_adaptation p order tokens rest)

abbrev pub more_parents : List ParentT → Spelling
more_parents [] = before (λ x. x ≢ t.Identifier)
more_parents (p ∷ ps) = spells_parent p ⨟ semicolons ⨟ more_parents ps

--   Inherit = "inherit" Parent {{";"} Parent} {";"}
abbrev pub spells_parents : List ParentT → Spelling
spells_parents [] = before (λ x. x ≢ t.Inherit)
spells_parents (p ∷ ps) = the t.Inherit ⨟ spells_parent p ⨟ semicolons ⨟ more_parents ps

-- ---- features

--   Creators = "create" [Clients] Ids
abbrev pub spells_creators : List CreatorsT → Spelling
spells_creators [] = before (λ x. x ≢ t.Create)
spells_creators (c ∷ cs) = the t.Create ⨟ maybe_clients c.clients ⨟ names c.names ⨟ spells_creators cs

--   Group = Ids ":" Type
abbrev pub spells_group : GroupT → Spelling
spells_group g = names g.names ⨟ the t.Colon ⨟ spells_type g.type_tree

abbrev pub more_groups : List GroupT → Spelling
more_groups [] = nothing
more_groups (g ∷ gs) = semicolons ⨟ spells_group g ⨟ more_groups gs

--   Args_decl = "(" Group {{";"} Group} ")"
abbrev pub spells_formal_arguments : List GroupT → Spelling
spells_formal_arguments [] = before (λ x. x ≢ t.OpenParenthesis)
spells_formal_arguments (g ∷ gs) = the t.OpenParenthesis ⨟ spells_group g ⨟ more_groups gs ⨟ the t.CloseParenthesis

abbrev pub local_groups : List GroupT → Spelling
local_groups [] = before (λ x. x ≢ t.Identifier)
local_groups (g ∷ gs) = spells_group g ⨟ semicolons ⨟ local_groups gs

abbrev pub spells_locals : List GroupT → Spelling
spells_locals gs = (the t.Local ⨟ local_groups gs) or (given (gs ≡ []) ⨟ before (λ x. x ≢ t.Local))

abbrev pub spells_result : Option TypeT → Spelling
spells_result None = before (λ x. x ≢ t.Colon)
spells_result (Some ty) = the t.Colon ⨟ spells_type ty

-- ["local" {Group {";"}}] "do" Compound | "deferred"
abbrev pub spells_body : KindT → Spelling
spells_body attribute = never
spells_body (constant x) = never
spells_body deferred_body = the t.Deferred
spells_body (routine ls is) = spells_locals ls ⨟ the t.Do ⨟ spells_compound is

--   Id [Args_decl] [":" Type] [Obsolete] ["require" ["else"] Assertions] body ["ensure" ["then"] Assertions] "end"
abbrev pub spells_routine : DeclT → NameAt → Spelling
spells_routine d n =
    the_name n ⨟ spells_formal_arguments d.arguments ⨟ spells_result d.result_type ⨟ obsolete
    ⨟ assertions_behind t.Require (maybe t.Else) d.preconditions ⨟ spells_body d.kind
    ⨟ assertions_behind t.Ensure (maybe t.Then) d.postconditions ⨟ the t.End

-- of one name a routine may follow, of several not
abbrev pub no_routine : List NameAt → Spelling
no_routine (n ∷ []) = before (λ x. begins_routine x ≡ false)
no_routine _ = nothing

-- ["=" Literal]
abbrev pub spells_value : List NameAt → KindT → Spelling
spells_value ns attribute = before (λ x. x ≢ t.Equal) ⨟ no_routine ns
spells_value ns (constant x) = the t.Equal ⨟ spells_literal x
spells_value ns deferred_body = never
spells_value ns (routine ls is) = never

--   Ids ":" Type ["=" Literal]
abbrev pub spells_attributes : DeclT → TypeT → Spelling
spells_attributes d ty =
    given ((d.arguments ≡ []) × (d.preconditions ≡ no_exs) × (d.postconditions ≡ no_exs))
    ⨟ names d.names ⨟ the t.Colon ⨟ spells_type ty ⨟ spells_value d.names d.kind

abbrev pub attributes_of : DeclT → Option TypeT → Spelling
attributes_of d None = never
attributes_of d (Some ty) = spells_attributes d ty

abbrev pub routine_of : DeclT → List NameAt → Spelling
routine_of d (n ∷ []) = spells_routine d n
routine_of d _ = never

abbrev pub spells_declaration : DeclT → Spelling
spells_declaration d = attributes_of d d.result_type or routine_of d d.names

abbrev pub spells_declarations : List DeclT → Spelling
spells_declarations [] = before (λ x. x ≢ t.Identifier)
spells_declarations (d ∷ ds) = spells_declaration d ⨟ semicolons ⨟ spells_declarations ds

--   Features = "feature" [Clients] {Decl {";"}}
abbrev pub spells_features : List FeaturesT → Spelling
spells_features [] = before (λ x. x ≢ t.Feature)
spells_features (f ∷ fs) = the t.Feature ⨟ maybe_clients f.clients ⨟ spells_declarations f.decls ⨟ spells_features fs

-- ---- the class

abbrev pub spells_deferred : Bool → Spelling
spells_deferred true = the t.Deferred
spells_deferred false = before (λ x. x ≢ t.Deferred)

--   Class = [Notes] ["deferred"] "class" Id [Formals] [Obsolete] [Inherit] {Creators} {Features} [Invariant] [Notes] "end"
abbrev pub spells_class : ClassT → Spelling
spells_class c =
    notes ⨟ spells_deferred c.is_deferred ⨟ the t.Class ⨟ name_at c.place c.name ⨟ spells_formals c.formals ⨟ obsolete
    ⨟ spells_parents c.parents ⨟ spells_creators c.creators ⨟ spells_features c.features
    ⨟ assertions_behind t.Invariant nothing c.invariants ⨟ notes ⨟ the t.End

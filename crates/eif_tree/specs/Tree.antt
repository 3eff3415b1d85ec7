-- Class texts as plain data: what contracts speak of. No pointers, and a list in the place of each `Vec`.
-- An assertion is its expression.
use Rattle.std.specs.Prelude.{ℕ, Bool, false, List, [], Option}
use Rattle.eif_base.specs.declared.Place.{Place}
use Rattle.eif_tree.specs.declared.tree.Mark.{Mark}
use Rattle.eif_tree.specs.declared.tree.Op.{Op}
use Rattle.eif_tree.specs.declared.tree.Literal.{Literal}
use Rattle.eif_tree.specs.declared.tree.NameAt.{NameAt}
use Rattle.eif_tree.specs.declared.tree.RenamePair.{RenamePair}

mutual
  -- the place, the place of the name, the mark, the name, the actuals
  pub data TypeT : Type 0 where
    type_at : Place → Place → Mark → List ℕ → Types → TypeT

  pub data Types : Type 0 where
    no_types : Types
    and_type : TypeT → Types → Types

mutual
  -- an expression begins with its place
  pub data Ex : Type 0 where
    literal : Place → Literal → Ex
    void_value : Place → Ex
    current_value : Place → Ex
    result_value : Place → Ex
    -- the name, the arguments
    unqualified : Place → List ℕ → Exs → Ex
    -- the parent, if one is named, the arguments
    precursor : Place → Option NameAt → Exs → Ex
    -- the target, the name, the arguments
    qualified : Place → Ex → NameAt → Exs → Ex
    -- the type, the creation procedure, if one is named, the arguments
    creation : Place → TypeT → Option NameAt → Exs → Ex
    -- the type and the local, if they are written, the tested expression
    test : Place → Option TypeT → Option NameAt → Ex → Ex
    paren : Place → Ex → Ex
    unary : Place → Op → Ex → Ex
    -- the operator, its place, the operands
    binary : Place → Op → Place → Ex → Ex → Ex

  pub data Exs : Type 0 where
    no_exs : Exs
    and_ex : Ex → Exs → Exs

mutual
  pub data Ins : Type 0 where
    -- the target, the source
    assign : NameAt → Ex → Ins
    call : Ex → Ins
    -- the place, the type, if one is written, the target, the creation procedure, if one is named, the arguments
    create : Place → Option TypeT → NameAt → Option NameAt → Exs → Ins
    -- the branches, the branch of `else`
    choose : Branches → Otherwise → Ins
    -- the start, the invariants, the exit, the body, the variant
    loop : Inss → Exs → Ex → Inss → Option Ex → Ins
    check : Exs → Ins

  pub data Inss : Type 0 where
    no_inss : Inss
    and_ins : Ins → Inss → Inss

  -- the condition, the body
  pub data Branches : Type 0 where
    no_branches : Branches
    and_branch : Ex → Inss → Branches → Branches

  pub data Otherwise : Type 0 where
    no_else : Otherwise
    else_part : Inss → Otherwise

-- names of one type: arguments or locals
pub record GroupT : Type 0 where
  pub names : List NameAt
  pub type_tree : TypeT

pub record FormalT : Type 0 where
  pub place : Place
  pub name : List ℕ
  pub constraint : Option TypeT

pub record ClientsT : Type 0 where
  pub stated : Bool
  pub names : List NameAt

-- where no list is written
abbrev pub no_clients : ClientsT
no_clients = record { stated = false; names = [] }

pub record ExportT : Type 0 where
  pub clients : ClientsT
  pub all : Option Place
  pub names : List NameAt

pub record ParentT : Type 0 where
  pub parent : TypeT
  pub renames : List RenamePair
  pub exports : List ExportT
  pub undefines : List NameAt
  pub redefines : List NameAt
  pub selects : List NameAt

pub record CreatorsT : Type 0 where
  pub clients : ClientsT
  pub names : List NameAt

pub data KindT : Type 0 where
  attribute : KindT
  constant : Literal → KindT
  deferred_body : KindT
  -- the locals, the body
  routine : List GroupT → Inss → KindT

pub record DeclT : Type 0 where
  pub names : List NameAt
  pub arguments : List GroupT
  pub result_type : Option TypeT
  pub kind : KindT
  pub preconditions : Exs
  pub postconditions : Exs

pub record FeaturesT : Type 0 where
  pub clients : ClientsT
  pub decls : List DeclT

pub record ClassT : Type 0 where
  pub place : Place
  pub name : List ℕ
  pub is_deferred : Bool
  pub formals : List FormalT
  pub parents : List ParentT
  pub creators : List CreatorsT
  pub features : List FeaturesT
  pub invariants : Exs

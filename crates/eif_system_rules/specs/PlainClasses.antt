-- Plain classes, which are all that this version judges: one creator, and procedures whose bodies call procedures.
use Rattle.std.specs.Prelude.{ℕ, ◌==◌, Bool, true, false, not, ◌&&◌, List, [], ◌∷◌, ◌++◌, length, flat_map, codes, is_none}
use Rattle.std.specs.List.{list_all}
use Rattle.eif_base.specs.Numbering.{is_among}
use Rattle.eif_tree.specs.declared.NameAt.{NameAt}
use Rattle.eif_tree.specs.Tree.{Exs, no_exs, Ins, Inss, call, unqualified, no_inss, and_ins, KindT, routine, DeclT, CreatorsT, ClassT}
use Rattle.eif_tree.specs.Members.{has_name, declarations, declared_names, creator_names, body_of, called_in}

-- ---- the form

abbrev pub no_assertions : Exs → Bool
no_assertions no_exs = true
no_assertions _ = false

-- an unqualified call without arguments
abbrev pub is_plain_call : Ins → Bool
is_plain_call (call (unqualified p n no_exs)) = true
is_plain_call _ = false

abbrev pub has_plain_calls : Inss → Bool
has_plain_calls no_inss = true
has_plain_calls (and_ins i is) = is_plain_call i && has_plain_calls is

-- a routine without locals whose body has such calls alone
abbrev pub is_plain_routine : KindT → Bool
is_plain_routine (routine [] body) = has_plain_calls body
is_plain_routine _ = false

-- one name, no argument, no result and no assertion
abbrev pub is_plain_declaration : DeclT → Bool
is_plain_declaration d =
    length d.names == 1
    && length d.arguments == 0
    && is_none d.result_type
    && is_plain_routine d.kind
    && no_assertions d.preconditions
    && no_assertions d.postconditions

-- one creators part, with one name
abbrev pub is_plain_creation : List CreatorsT → Bool
is_plain_creation (part ∷ []) = length part.names == 1
is_plain_creation _ = false

-- not deferred, and no formal, no parent and no invariant
abbrev pub has_plain_form : ClassT → Bool
has_plain_form c =
    not c.is_deferred
    && length c.formals == 0
    && length c.parents == 0
    && is_plain_creation c.creators
    && list_all is_plain_declaration (declarations c)
    && no_assertions c.invariants

-- ---- the names

-- no name stands in the list twice
abbrev pub are_distinct : List NameAt → Bool
are_distinct [] = true
are_distinct (n ∷ ns) = not (has_name ns n.name) && are_distinct ns

-- names of features that the kernel's classes have
abbrev pub kernel_features : List (List ℕ)
kernel_features = codes "default_create" ∷ codes "out" ∷ codes "print" ∷ []

-- the names that declarations call
abbrev pub called_by_all : List DeclT → List NameAt
called_by_all ds = flat_map (λ d. called_in (body_of d.kind)) ds

-- the names of clients, of its creators parts and then of its features parts
abbrev pub client_names : ClassT → List NameAt
client_names c = flat_map (λ part. part.clients.names) c.creators ++ flat_map (λ part. part.clients.names) c.features

-- none of the names is that of a kernel feature
abbrev pub names_no_kernel_feature : List NameAt → Bool
names_no_kernel_feature ns = list_all (λ n. not (is_among kernel_features n.name)) ns

-- of a class by its name and the names of its creators, of its declarations, of its calls and of its clients: the
-- declared names differ, the creators are declared, and no kernel feature is named
abbrev pub has_plain_names : List ℕ → List NameAt → List NameAt → List NameAt → List NameAt → Bool
has_plain_names name creators declared called clients =
    are_distinct declared
    && list_all (λ n. has_name declared n.name) creators
    && not (is_among kernel_features name)
    && names_no_kernel_feature creators
    && names_no_kernel_feature declared
    && names_no_kernel_feature called
    && names_no_kernel_feature clients

-- ---- both

abbrev pub is_plain : ClassT → Bool
is_plain c =
    has_plain_form c
    && has_plain_names c.name (creator_names c) (declared_names c) (called_by_all (declarations c)) (client_names c)

-- The classes of a system, each with its number, and what a name denotes.
use Rattle.std.specs.Prelude.{ℕ, suc, Bool, if◌then◌else◌, List, [], ◌∷◌, ◌++◌, Option, Some, None}
use Rattle.std.specs.Option.{option_map}
use Rattle.std.specs.List.{list_any}
use Rattle.std.specs.Str.{bytes_eq}
use Rattle.eif_tree.specs.Tree.{ClassT}
use Rattle.eif_system.specs.Kernel.{kernel}

-- the kernel's classes, and then the given ones; a class has its place in this list as its number
abbrev pub universe : List ClassT → List ClassT
universe given = kernel ++ given

-- the number of the first class with the name
abbrev pub class_number : List ClassT → List ℕ → Option ℕ
class_number [] n = None
class_number (c ∷ cs) n = if bytes_eq c.name n then Some 0 else option_map suc (class_number cs n)

-- the name is that of a formal of the class
abbrev pub is_formal : ClassT → List ℕ → Bool
is_formal c n = list_any (λ f. bytes_eq f.name n) c.formals

-- the class that a name denotes where it stands in the class c: a formal hides the class of its name
abbrev pub class_denoted : List ClassT → ClassT → List ℕ → Option ℕ
class_denoted u c n = if is_formal c n then None else class_number u n

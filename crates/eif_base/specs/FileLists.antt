-- The files of a system.
use Rattle.std.specs.Prelude.{ℕ, List, map}

-- a class text under its file name
pub record NamedText : Type 0 where
  pub name : List ℕ
  pub text : List ℕ

-- the file names, in order
abbrev pub names_of : List NamedText → List (List ℕ)
names_of files = map (λ f. f.name) files

-- the texts, in order
abbrev pub texts_of : List NamedText → List (List ℕ)
texts_of files = map (λ f. f.text) files

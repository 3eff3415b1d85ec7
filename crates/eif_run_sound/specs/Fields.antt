-- Which fields of an object are set, and what a body does to them.
use Rattle.std.specs.Prelude.{◌≡◌, ℕ, true, ◌||◌, List, Some}
use Rattle.eif_base.specs.Numbering.{is_among}
use Rattle.eif_classes.specs.Types.{TyT, is_self_initialising}
use Rattle.eif_system.specs.Lineage.{line_of}
use Rattle.eif_tree.specs.Tree.{ClassT}
use Rattle.eif_flow_rules.specs.FieldSets.{FieldSet}
use Rattle.eif_flow_rules.specs.FlowTrees.{Flow}
use Rattle.eif_flow_rules.specs.MetNeeds.{IsMet}
use Rattle.eif_flow_rules.specs.NeedsAndSets.{set_after}
use Rattle.eif_flow_rules.specs.Summaries.{due_fields, summary}
use Rattle.eif_meaning.specs.Values.{Object}
use Rattle.eif_meaning.specs.System.{system_over}
use Rattle.eif_meaning.specs.Objects.{field_type}
use Rattle.eif_run_laws.specs.Holders.{IsSet}

-- the fields of the set have values, and so have those of a type that has one from the start
abbrev pub Ready : List ClassT → FieldSet → Object → Type 0
Ready u f o =
    (n : List ℕ) (t : TyT) → field_type (system_over u) o.made.class_number n ≡ Some t
    → (is_self_initialising t || f n) ≡ true → IsSet (o.field n)

-- the fields of class d that have no value at the start
abbrev pub due : List ClassT → ℕ → FieldSet
due u d = is_among (due_fields u (line_of u d))

-- on an object of class d each node of a text finds set what it needs, where the fields of f are
abbrev pub Met : List ClassT → ℕ → Flow → FieldSet → Type 0
Met u d t f = IsMet (due u d) (summary u (line_of u d)) t f

-- which fields are surely set behind a text
abbrev pub behind : List ClassT → ℕ → Flow → FieldSet → FieldSet
behind u d t f = set_after (due u d) (summary u (line_of u d)) t f

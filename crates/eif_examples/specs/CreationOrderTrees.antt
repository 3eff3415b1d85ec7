-- The trees of the examples of generic classes, and those that examples of creation flow make where they are used.
use Rattle.std.specs.Prelude.{List, [], ◌∷◌}
use Rattle.eif_tree.specs.declared.tree.Op.TheVariants as op
use Rattle.eif_tree.specs.Tree.{ClassT}
use Rattle.eif_flow_rules_laws.specs.CreationTexts.{at, maybe, the, any, dot, one, two, fill, set, perform, perform_with, show, make, when_else, when_elseif, until}
use Rattle.eif_flow_rules_laws.specs.CreatorExamples as creator
use Rattle.eif_flow_rules_laws.specs.GenericExamples as generic
use Rattle.eif_flow_rules_laws.specs.NameExamples as name
use Rattle.eif_flow_rules_laws.specs.OrderExamples as order
use Rattle.eif_flow_rules_laws.specs.SelfCallExamples as self_call

-- with some of their places
abbrev pub sparse_creation_order_trees : List ClassT
sparse_creation_order_trees =
    creator.with_other []
    ∷ creator.with_loop (make "name")
    ∷ generic.cell
    ∷ generic.numbers
    ∷ generic.strings
    ∷ generic.cell_with (maybe "g")
    ∷ name.then_y (name.if_it (two op.AndThen name.is_y (name.empty_y 79)))
    ∷ name.then_y (name.if_it (two op.Implies name.is_y (name.empty_y 78)))
    ∷ name.then_y (name.if_it (two op.OrElse (one op.Not name.is_y) (name.empty_y 82)))
    ∷ name.then_y (name.if_it (two op.And name.is_y (name.empty_y 74)))
    ∷ name.then_y (make "y")
    ∷ name.then_y
    (when_else (one op.Not name.is_y) (show (the (at 86) "y") ∷ []) (show (the (at 101) "y") ∷ []))
    ∷ name.then_y (until [] (one op.Not name.is_y) (show (the (at 94) "y") ∷ []))
    ∷ order.with_filled (set "name" (the (at 60) "name") ∷ [])
    ∷ order.with_filled []
    ∷ order.with_filled (perform_with "take" (the (at 58) "name") ∷ [])
    ∷ order.with_filled (perform (dot (the (at 52) "name") "append" (any "filled" ∷ [])) ∷ [])
    ∷ order.with_filled (show (two op.Plus (the (at 59) "name") (any "filled")) ∷ [])
    ∷ order.with_filled (show (two op.Plus (any "filled") (any "name")) ∷ [])
    ∷ self_call.with_fill (when_elseif (any "fill") [] (dot (any "name") "is_empty" []) [] [] ∷ [])
    ∷ self_call.with_fill (order.checks ∷ fill "name" ∷ [])
    ∷ self_call.with_fill (order.claims ∷ fill "name" ∷ [])
    ∷ self_call.alone []
    ∷ self_call.with_fill []
    ∷ []

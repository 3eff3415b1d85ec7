use Rattle.std.proofs.Common.{subst}
use Rattle.eif_base.specs.Numbering.{IsNumbering}
use Rattle.eif_base.proofs.Keys.{with_key, number_is_last, once_more, few_more}
use Rattle.eif_base.proofs.names.Names.add.Goals as goal

pub returns-clause-texts : goal.returns-clause-texts
returns-clause-texts c =
    with_key c.args.self.now c.args.text.now c.self.inside.texts.keys c.insert.new.self.keys c.in_ok-copy.copy
    c.self.view_is c.in_ok-copy.ensures.items c.in_ok-insert.ensures.keys

pub returns-clause-number : goal.returns-clause-number
returns-clause-number c =
    number_is_last c.args.self.now c.args.text.now c.self.inside.texts.keys c.insert.new.self.keys c.in_ok-copy.copy
    c.self.view_is c.in_ok-copy.ensures.items c.in_ok-insert.ensures.keys c.requires.absent
    c.len-number.result c.len-number.ensures.len

pub returns-clause-once : goal.returns-clause-once
returns-clause-once c =
    once_more c.args.self.now c.args.text.now c.self.inside.texts.keys c.insert.new.self.keys c.in_ok-copy.copy
    c.self.view_is c.in_ok-copy.ensures.items c.in_ok-insert.ensures.keys c.requires.absent
    (subst IsNumbering c.self.view_is c.self.invariant.1)

pub invariant_of-self-2 : goal.invariant_of-self-2
invariant_of-self-2 c = (
  few_more c.args.self.now c.args.text.now c.self.inside.texts.keys c.insert.new.self.keys c.in_ok-copy.copy
      c.self.view_is c.in_ok-copy.ensures.items c.in_ok-insert.ensures.keys c.requires.absent c.requires.few,
  once_more c.args.self.now c.args.text.now c.self.inside.texts.keys c.insert.new.self.keys c.in_ok-copy.copy
      c.self.view_is c.in_ok-copy.ensures.items c.in_ok-insert.ensures.keys c.requires.absent
      (subst IsNumbering c.self.view_is c.self.invariant.1),
)

use Rattle.std.proofs.Common.{◌≡◌, ℕ, List, [], ◌∙◌, ap, cond, arith, length}
use Rattle.std.proofs.lemmas.List.{get_or_read}
use Rattle.command_words.specs.Streams.{is_standard_input}
use Rattle.commands.proofs.lemmas.PasteNameLaws.{names_step, columns_step}
use Rattle.commands.proofs.paste_words.name_inputs.Goals as goal

pub loop-p-preserved : goal.loop-p-preserved
loop-p-preserved c =
    let l = c.loop-p in
    let ws = c.args.operands.now in
    let w = c.index-operands-p.result in
    let first = c.first_standard-first.result in
    let count = c.len.result in
    let is = get_or_read ws l.p w c.loop-p-test.true c.index-operands-p.is [] in
    let long : count ≡ length l.names.items = omega (arith, c.len.ensures, l.names.ok) in
    record {
      names = names_step ws l.p first w l.names.items c.add_name.new.names.items c.loop-p-test.true
          c.first_standard-first.ensures is l.invariant.names c.in_ok-add_name.ensures;
      columns = columns_step ws l.p first count c.column_of-column.result w l.names.items
          l.columns.items c.push.new.self.items c.loop-p-test.true c.first_standard-first.ensures is
          l.invariant.names long (c.column_of-column.ensures
          ∙ ap (λ (v : List ℕ). cond (is_standard_input v) first count) c.bytes.ensures) l.invariant.columns
          c.in_ok-push.ensures.items;
    }

use Rattle.std.proofs.Common.{◌∙◌, ap, subst, sym, ℕ}
use Rattle.collector.specs.Files.{WriteLog, WritesOnly, SettlesAll, log_of}
use Rattle.collector.specs.Nodes.{SinkShown, SinkFits}
use Rattle.collector.proofs.Logs.{writes_on}
use Rattle.collector.proofs.lemmas.SinkLaws.{settled_same, settled_fits, next_fits}
use Rattle.collector.proofs.sink.Sink.go_on.Goals as goal

pub returns-then-settle_out-clause-fits : goal.returns-then-settle_out-clause-fits
returns-then-settle_out-clause-fits g c = λ f.
    let old = g.F.Files.shows c.args.files.now in
    let mid = g.F.Files.shows c.settle_out.new.files in
    let new = g.F.Files.shows c.take_next.new.files in
    let x = c.args.self.now in
    let y = c.settle_out.new.self in
    let z = c.take_next.new.self in
    let same = settled_same x y c.settle_out.result c.requires.running c.if-settle_out.true
    c.settle_out.ensures.state in
    let file = ap (λ (s : SinkShown). s.file) same in
    let all = c.settle_out.ensures.all c.if-settle_out.true in
    let here = subst (λ (k : ℕ). SettlesAll (log_of old x.file) (log_of mid k)) (sym file) all in
    let running = ap (λ (s : SinkShown). s.state) same ∙ c.requires.running in
    let fits = settled_fits x c.requires.running (log_of old x.file) (log_of mid x.file) all f in
    let mine = subst (λ (s : SinkShown). SinkFits (log_of mid s.file) s) (sym same) fits in
    let settled = ap (λ (l : WriteLog). l.out) here in
    let now = next_fits y running z (log_of mid y.file) (log_of new y.file) settled
    c.take_next.result c.take_next.ensures.told c.take_next.ensures.state mine in
    subst (λ (k : ℕ). SinkFits (log_of new k) z)
    (sym (ap (λ (s : SinkShown). s.file) c.take_next.ensures.state)) now

pub returns-then-settle_out-clause-own : goal.returns-then-settle_out-clause-own
returns-then-settle_out-clause-own g c =
    let old = g.F.Files.shows c.args.files.now in
    let mid = g.F.Files.shows c.settle_out.new.files in
    let new = g.F.Files.shows c.take_next.new.files in
    let x = c.args.self.now in
    let y = c.settle_out.new.self in
    let same = settled_same x y c.settle_out.result c.requires.running c.if-settle_out.true
    c.settle_out.ensures.state in
    writes_on x.file old mid new c.settle_out.ensures.own
    (subst (λ (s : SinkShown). WritesOnly s.file mid new) same c.take_next.ensures.own)

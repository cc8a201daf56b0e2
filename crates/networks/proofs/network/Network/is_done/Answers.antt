use Rattle.std.proofs.Common.{◌≡◌, length, ap, sym, ◌∙◌, arith}
use Rattle.networks.specs.Networks.{Networked}
use Rattle.networks.proofs.EndLaws.{all_are_done, are_all_done, no_files}
use Rattle.networks.proofs.network.Network.is_done.Goals as goal

pub returns : goal.returns
returns g c =
    let e : length c.args.self.now.nodes ≡ length c.self.inside.parts.nodes.items =
    ap (λ (x : Networked g.row.M.Denot). length x.nodes) (sym c.self.view_is) in
    let n : c.len.result ≡ length c.args.self.now.nodes =
    omega (arith, c.len.ensures, c.self.inside.parts.nodes.ok.0, e) in
    let is = c.is_all.ensures in (
      λ true. all_are_done g.M.Machine.shows no_files c.args.self.now (sym (c.done.ensures no_files)
          ∙ (is.0 true ∙ n)),
      λ done. is.1 (c.done.ensures no_files
          ∙ (are_all_done g.M.Machine.shows no_files c.args.self.now done ∙ sym n)),
    )

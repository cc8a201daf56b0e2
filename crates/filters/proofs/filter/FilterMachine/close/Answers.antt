use Rattle.std.proofs.Common.{ap}
use Rattle.splice_tee.specs.CatShows.{cat_shows}
use Rattle.line_filters.specs.CutShows.{cut_shows}
use Rattle.line_filters.specs.HeadShows.{head_shows}
use Rattle.line_filters.specs.TailShows.{tail_shows}
use Rattle.tr_filter.specs.TrShows.{tr_shows}
use Rattle.byte_filters.specs.FoldShows.{fold_shows}
use Rattle.byte_filters.specs.WcShows.{wc_shows}
use Rattle.pair_filters.specs.PasteShows.{paste_shows}
use Rattle.pair_filters.specs.UniqShows.{uniq_shows}
use Rattle.filters.specs.FilterShows.{filter_shows}
use Rattle.filters.proofs.lemmas.TooLarge.{closes_too_large}
use Rattle.filters.proofs.filter.FilterMachine.close.Goals as goal

pub returns-in-Cat-clause-too_large : goal.returns-in-Cat-clause-too_large
returns-in-Cat-clause-too_large c = closes_too_large c.close.result c.args.input
    (cat_shows c.in-Cat.machine) (filter_shows c.args.self.now)
    (ap filter_shows c.in-Cat.is) c.close.ensures.too_large

pub returns-in-Cut-clause-too_large : goal.returns-in-Cut-clause-too_large
returns-in-Cut-clause-too_large c = closes_too_large c.close-in-Cut.result c.args.input
    (cut_shows c.in-Cut.machine) (filter_shows c.args.self.now)
    (ap filter_shows c.in-Cut.is) c.close-in-Cut.ensures.too_large

pub returns-in-Head-clause-too_large : goal.returns-in-Head-clause-too_large
returns-in-Head-clause-too_large c = closes_too_large c.close-in-Head.result c.args.input
    (head_shows c.in-Head.machine) (filter_shows c.args.self.now)
    (ap filter_shows c.in-Head.is) c.close-in-Head.ensures.too_large

pub returns-in-Tail-clause-too_large : goal.returns-in-Tail-clause-too_large
returns-in-Tail-clause-too_large c = closes_too_large c.close-in-Tail.result c.args.input
    (tail_shows c.in-Tail.machine) (filter_shows c.args.self.now)
    (ap filter_shows c.in-Tail.is) c.close-in-Tail.ensures.too_large

pub returns-in-Tr-clause-too_large : goal.returns-in-Tr-clause-too_large
returns-in-Tr-clause-too_large c = closes_too_large c.close-in-Tr.result c.args.input
    (tr_shows c.in-Tr.machine) (filter_shows c.args.self.now)
    (ap filter_shows c.in-Tr.is) c.close-in-Tr.ensures.too_large

pub returns-in-Fold-clause-too_large : goal.returns-in-Fold-clause-too_large
returns-in-Fold-clause-too_large c = closes_too_large c.close-in-Fold.result c.args.input
    (fold_shows c.in-Fold.machine) (filter_shows c.args.self.now)
    (ap filter_shows c.in-Fold.is) c.close-in-Fold.ensures.too_large

pub returns-in-Wc-clause-too_large : goal.returns-in-Wc-clause-too_large
returns-in-Wc-clause-too_large c = closes_too_large c.close-in-Wc.result c.args.input
    (wc_shows c.in-Wc.machine) (filter_shows c.args.self.now)
    (ap filter_shows c.in-Wc.is) c.close-in-Wc.ensures.too_large

pub returns-in-Paste-clause-too_large : goal.returns-in-Paste-clause-too_large
returns-in-Paste-clause-too_large c = closes_too_large c.close-in-Paste.result c.args.input
    (paste_shows c.in-Paste.machine) (filter_shows c.args.self.now)
    (ap filter_shows c.in-Paste.is) c.close-in-Paste.ensures.too_large

pub returns-in-Uniq-clause-too_large : goal.returns-in-Uniq-clause-too_large
returns-in-Uniq-clause-too_large c = closes_too_large c.close-in-Uniq.result c.args.input
    (uniq_shows c.in-Uniq.machine) (filter_shows c.args.self.now)
    (ap filter_shows c.in-Uniq.is) c.close-in-Uniq.ensures.too_large

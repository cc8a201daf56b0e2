use Rattle.std.proofs.Common.{ap}
use Rattle.splice_tee.specs.CatShows.{cat_shows}
use Rattle.line_filters.specs.CutShows.{cut_shows}
use Rattle.line_filters.specs.HeadShows.{head_shows}
use Rattle.line_filters.specs.TailShows.{tail_shows}
use Rattle.tr_filter.specs.TrShows.{tr_shows}
use Rattle.byte_filters.specs.FoldShows.{fold_shows}
use Rattle.byte_filters.specs.WcShows.{wc_shows}
use Rattle.pair_filters.specs.PasteShows.{paste_shows}
use Rattle.pair_filters.specs.UniqShows.{uniq_shows}
use Rattle.filters.specs.FilterShows.{filter_shows}
use Rattle.filters.proofs.lemmas.TooLarge.{feeds_too_large}
use Rattle.filters.proofs.filter.FilterMachine.feed.Goals as goal

pub returns-in-Cat-clause-too_large : goal.returns-in-Cat-clause-too_large
returns-in-Cat-clause-too_large c = feeds_too_large c.feed.result c.args.input c.args.piece
    (cat_shows c.in-Cat.machine) (filter_shows c.args.self.now)
    (ap filter_shows c.in-Cat.is) c.feed.ensures.too_large

pub returns-in-Cut-clause-too_large : goal.returns-in-Cut-clause-too_large
returns-in-Cut-clause-too_large c = feeds_too_large c.feed-in-Cut.result c.args.input c.args.piece
    (cut_shows c.in-Cut.machine) (filter_shows c.args.self.now)
    (ap filter_shows c.in-Cut.is) c.feed-in-Cut.ensures.too_large

pub returns-in-Head-clause-too_large : goal.returns-in-Head-clause-too_large
returns-in-Head-clause-too_large c = feeds_too_large c.feed-in-Head.result c.args.input c.args.piece
    (head_shows c.in-Head.machine) (filter_shows c.args.self.now)
    (ap filter_shows c.in-Head.is) c.feed-in-Head.ensures.too_large

pub returns-in-Tail-clause-too_large : goal.returns-in-Tail-clause-too_large
returns-in-Tail-clause-too_large c = feeds_too_large c.feed-in-Tail.result c.args.input c.args.piece
    (tail_shows c.in-Tail.machine) (filter_shows c.args.self.now)
    (ap filter_shows c.in-Tail.is) c.feed-in-Tail.ensures.too_large

pub returns-in-Tr-clause-too_large : goal.returns-in-Tr-clause-too_large
returns-in-Tr-clause-too_large c = feeds_too_large c.feed-in-Tr.result c.args.input c.args.piece
    (tr_shows c.in-Tr.machine) (filter_shows c.args.self.now)
    (ap filter_shows c.in-Tr.is) c.feed-in-Tr.ensures.too_large

pub returns-in-Fold-clause-too_large : goal.returns-in-Fold-clause-too_large
returns-in-Fold-clause-too_large c = feeds_too_large c.feed-in-Fold.result c.args.input c.args.piece
    (fold_shows c.in-Fold.machine) (filter_shows c.args.self.now)
    (ap filter_shows c.in-Fold.is) c.feed-in-Fold.ensures.too_large

pub returns-in-Wc-clause-too_large : goal.returns-in-Wc-clause-too_large
returns-in-Wc-clause-too_large c = feeds_too_large c.feed-in-Wc.result c.args.input c.args.piece
    (wc_shows c.in-Wc.machine) (filter_shows c.args.self.now)
    (ap filter_shows c.in-Wc.is) c.feed-in-Wc.ensures.too_large

pub returns-in-Paste-clause-too_large : goal.returns-in-Paste-clause-too_large
returns-in-Paste-clause-too_large c =
    feeds_too_large c.feed-in-Paste.result c.args.input c.args.piece
    (paste_shows c.in-Paste.machine) (filter_shows c.args.self.now)
    (ap filter_shows c.in-Paste.is) c.feed-in-Paste.ensures.too_large

pub returns-in-Uniq-clause-too_large : goal.returns-in-Uniq-clause-too_large
returns-in-Uniq-clause-too_large c = feeds_too_large c.feed-in-Uniq.result c.args.input c.args.piece
    (uniq_shows c.in-Uniq.machine) (filter_shows c.args.self.now)
    (ap filter_shows c.in-Uniq.is) c.feed-in-Uniq.ensures.too_large

-- What the machine of a filter shows: what its own machine does.
use Rattle.machine.specs.Law.{Shown, IsLawful}
use Rattle.byte_filters.specs.FoldShows.{fold_shows, fold_lawful}
use Rattle.tr_filter.specs.TrShows.{tr_shows, tr_lawful}
use Rattle.byte_filters.specs.WcShows.{wc_shows, wc_lawful}
use Rattle.line_filters.specs.CutShows.{cut_shows, cut_lawful}
use Rattle.line_filters.specs.HeadShows.{head_shows, head_lawful}
use Rattle.line_filters.specs.TailShows.{tail_shows, tail_lawful}
use Rattle.pair_filters.specs.PasteShows.{paste_shows, paste_lawful}
use Rattle.pair_filters.specs.UniqShows.{uniq_shows, uniq_lawful}
use Rattle.splice_tee.specs.CatShows.{cat_shows, cat_lawful}
use Rattle.filters.specs.declared.filter.Filter.{Filter}
use Rattle.filters.specs.declared.filter.Filter.TheVariants as filter

abbrev pub filter_shows : Filter → Shown
filter_shows (filter.Cat m) = cat_shows m
filter_shows (filter.Cut m) = cut_shows m
filter_shows (filter.Fold m) = fold_shows m
filter_shows (filter.Head m) = head_shows m
filter_shows (filter.Paste m) = paste_shows m
filter_shows (filter.Tail m) = tail_shows m
filter_shows (filter.Tr m) = tr_shows m
filter_shows (filter.Uniq m) = uniq_shows m
filter_shows (filter.Wc m) = wc_shows m

-- it obeys the law
pub filter_lawful : (m : Filter) → IsLawful (filter_shows m)
filter_lawful (filter.Cat m) = cat_lawful m
filter_lawful (filter.Cut m) = cut_lawful m
filter_lawful (filter.Fold m) = fold_lawful m
filter_lawful (filter.Head m) = head_lawful m
filter_lawful (filter.Paste m) = paste_lawful m
filter_lawful (filter.Tail m) = tail_lawful m
filter_lawful (filter.Tr m) = tr_lawful m
filter_lawful (filter.Uniq m) = uniq_lawful m
filter_lawful (filter.Wc m) = wc_lawful m

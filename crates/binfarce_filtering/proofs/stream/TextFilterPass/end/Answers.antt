use Rattle.binfarce_filtering.specs.FilterViews.{is_full}
use Rattle.binfarce_filtering.proofs.Streams.{held_begins, whole_begins}
use Rattle.binfarce_filtering.proofs.stream.TextFilterPass.end.Goals as goal

pub returns-clause-breaks_off : goal.returns-clause-breaks_off
returns-clause-breaks_off g c = λ first now text part made others holds. held_begins (is_full first) now text part made others holds

pub returns-clause-done : goal.returns-clause-done
returns-clause-done g c = λ first now ended text made others is. whole_begins (is_full first) text made others is

use Rattle.binfarce_tools.proofs.list.list_tables.Goals as goal

pub returns-clause-takes : goal.returns-clause-takes
returns-clause-takes g c = λ which file section are. c.list_selected.ensures.takes which file section are (c.in_ok-selected.ensures.gets which file section are)

pub returns-clause-outcome : goal.returns-clause-outcome
returns-clause-outcome g c = λ which file section are. c.list_selected.ensures.outcome which file section (c.in_ok-selected.ensures.gets which file section are)

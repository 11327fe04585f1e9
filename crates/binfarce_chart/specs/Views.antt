-- The views of a bar that clauses use.
use Rattle.binfarce_chart.specs.declared.bars.Bar.{Bar}
use Rattle.binfarce_chart.specs.Chart.{Row}

abbrev pub bar_view : Bar → Row
bar_view b = record { name = b.name.now; size = b.size }

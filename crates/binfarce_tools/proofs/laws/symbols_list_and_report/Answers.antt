use Rattle.binfarce_tools.proofs.SymbolLaws.{report_of_symbols}
use Rattle.binfarce_tools.proofs.laws.symbols_list_and_report.Goals as goal

pub returns-clause-report : goal.returns-clause-report
returns-clause-report c = report_of_symbols c.args.symbols.now c.args.size

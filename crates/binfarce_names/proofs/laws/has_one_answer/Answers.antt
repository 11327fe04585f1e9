use Rattle.binfarce_names.specs.Name.{mangled_view}
use Rattle.binfarce_names.proofs.NameLemmas.{has_answer, answers_same}
use Rattle.binfarce_names.proofs.laws.has_one_answer.Goals as goal

pub returns : goal.returns
returns c = record { some = has_answer c.args.name.now (mangled_view c.demangle-demangled.result) c.demangle-demangled.ensures.mangled; one = answers_same c.args.name.now }

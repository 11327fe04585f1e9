use Rattle.binfarce_jobs.proofs.AddressWords.{Reads}
use Rattle.binfarce_jobs.proofs.at.read_addresses.Given as goal

-- the addresses of the words so far
abbrev pub invariant-loop-word : goal.invariant-loop-word
invariant-loop-word l = Reads l.words l.word-index l.addresses.items

use Rattle.std.proofs.Common.{[], inr}
use Rattle.binfarce_jobs.proofs.AddressWords.{stops, goes_on, all_words}
use Rattle.binfarce_jobs.proofs.at.read_addresses.Goals as goal

pub returns-in-None : goal.returns-in-None
returns-in-None c =
    let words = c.args.words.now in
    let i = c.loop-word.word-index in
    inr (stops words i (record { ref_ptr = (0, 0); now = [] }) c.as_bytes.result.now c.loop-word.addresses.items c.loop-word-test.true c.as_bytes.ensures.value c.loop-word.invariant c.in-None.ensures, tt)

pub loop-word-preserved : goal.loop-word-preserved
loop-word-preserved c =
    goes_on c.args.words.now c.loop-word.word-index (record { ref_ptr = (0, 0); now = [] }) c.as_bytes.result.now c.loop-word.addresses.items c.loop-word-test.true c.as_bytes.ensures.value c.loop-word.invariant
    c.in-Some.address c.push.new.self.items c.in-Some.ensures c.in-Ok.ensures.items

pub returns : goal.returns
returns c = all_words c.args.words.now c.loop-word.word-index c.loop-word.addresses.items c.loop-word-test.false c.loop-word.invariant

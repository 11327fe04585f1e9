use Rattle.std.proofs.Common.{◌≡◌, take, MatchOption}
use Rattle.binfarce_words.specs.Named.{shared, IsNearest}
use Rattle.binfarce_words.proofs.named.nearest.Given as goal

-- the nearest of those before, and how many bytes it shares
abbrev pub invariant-loop-it : goal.invariant-loop-it
invariant-loop-it g l = IsNearest g.T.Named.text (take l.it-index l.known) l.name l.least l.found
    × MatchOption l.found (l.most ≡ l.least) (λ best. l.most ≡ shared (g.T.Named.text best) l.name)

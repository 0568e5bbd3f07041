-- The rules of either register.
use Rattle.std.specs.Prelude.{Bool}
use Rattle.words.specs.Choice.{pick}
use Rattle.common.specs.Rules.{Rules}
use Rattle.protocol.specs.Rules.{ticket_rules}
use Rattle.counted.specs.Rules.{counted_rules}

-- a state's head tells whose rules its calls follow: the counted register's, or the first one's
abbrev pub rules_of : Bool → Rules
rules_of counted = pick counted counted_rules ticket_rules

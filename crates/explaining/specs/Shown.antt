-- What is said of a record shows that it breaks the rule: read off the values that are said, and nothing else. What a return is, and an entry, no value of these shows.
use Rattle.std.specs.Prelude.{◌≡◌, ◌≢◌, ◌<◌, ◌≤◌, ◌⊎◌, bit_and}
use Rattle.explaining.specs.declared.explanation.Record.{Record}
use Rattle.explaining.specs.declared.explanation.Record.TheVariants.{File, Entry, Method, Node, Edge, Row}
use Rattle.explaining.specs.declared.explanation.Rule.{Rule}
use Rattle.explaining.specs.declared.explanation.Rule.TheVariants.{ShortFile, WrongLength, WrongPlace, WrongCount, NoNodes, SumPast, SumShort, NoEntry, UnknownKind, WrongMark, UnknownFlag, NotPrivileged, UnusedCallee, UnusedGrant, UnusedAccept, NoCallee, GrantOutside, AcceptOutside, NoFrom, NoTo, LeavesReturn, LeavesMethod, NotRising, WrongCell}

abbrev pub Shows : Record → Rule → Type 0
Shows (File length) ShortFile = length < 16
Shows (File length) (WrongLength wanted) = length ≢ wanted
Shows (Entry entry place count) (WrongPlace wanted) = place ≢ wanted
Shows (Entry entry place count) (WrongCount low high) = (count < low) ⊎ (high < count)
Shows (Method number rights own) NoNodes = own ≡ 0
Shows (Method number rights own) (SumPast sum nodes) = nodes < sum
Shows (Method number rights own) (SumShort sum nodes) = sum ≢ nodes
Shows (Method number rights own) NoEntry = Unit {0}
Shows (Node number f) UnknownKind = 4 ≤ f.kind
Shows (Node number f) WrongMark = 32 ≤ f.mark
Shows (Node number f) UnknownFlag = 4 ≤ f.flags
Shows (Node number f) NotPrivileged = (f.kind ≢ 1) × (2 ≤ f.flags)
Shows (Node number f) UnusedCallee = (f.kind ≢ 1) × (f.callee ≢ 0)
Shows (Node number f) UnusedGrant = (f.kind ≢ 1) × (f.kind ≢ 2) × (f.grant ≢ 0)
Shows (Node number f) UnusedAccept = (f.kind ≢ 1) × (f.accept ≢ 0)
Shows (Node number f) (NoCallee methods) = (f.kind ≡ 1) × (methods ≤ f.callee)
Shows (Node number f) (GrantOutside rights) = (f.kind ≡ 1) × (bit_and f.grant rights ≢ f.grant)
Shows (Node number f) (AcceptOutside rights) = (f.kind ≡ 1) × (bit_and f.accept rights ≢ f.accept)
Shows (Edge number from to) (NoFrom nodes) = nodes ≤ from
Shows (Edge number from to) (NoTo nodes) = nodes ≤ to
Shows (Edge number from to) LeavesReturn = Unit {0}
Shows (Edge number from to) (LeavesMethod m k) = m ≢ k
Shows (Edge number from to) (NotRising above below) = (from < above) ⊎ ((from ≡ above) × (to ≤ below))
Shows (Row number) (WrongCell mark cell) = (mark < 32) × (cell ≢ 255)
Shows what rule = ⊥

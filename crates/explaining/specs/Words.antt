-- What is said of an explanation in words: the bytes that are printed of it.
use Rattle.std.specs.Prelude.{ℕ, List, ◌++◌, codes}
use Rattle.std.specs.Fmt.{decimal}
use Rattle.recipe.specs.Words.{body_name}
use Rattle.explaining.specs.declared.explanation.Explanation.{Explanation}
use Rattle.explaining.specs.declared.explanation.Record.{Record}
use Rattle.explaining.specs.declared.explanation.Record.TheVariants.{File, Entry, Method, Node, Edge, Row}
use Rattle.explaining.specs.declared.explanation.Rule.{Rule}
use Rattle.explaining.specs.declared.explanation.Rule.TheVariants.{ShortFile, WrongLength, WrongPlace, WrongCount, NoNodes, SumPast, SumShort, NoEntry, UnknownKind, WrongMark, UnknownFlag, NotPrivileged, UnusedCallee, UnusedGrant, UnusedAccept, NoCallee, GrantOutside, AcceptOutside, NoFrom, NoTo, LeavesReturn, LeavesMethod, NotRising, WrongCell}

-- words with a number behind them
abbrev pub numbered : List ℕ → ℕ → List ℕ
numbered words n = words ++ decimal n

-- a record by its values
abbrev pub record_text : Record → List ℕ
record_text (File length) = numbered (codes "file of ") length ++ codes " bytes"
record_text (Entry entry place count) = body_name entry ++ (numbered (codes " entry, place ") place ++ numbered (codes ", count ") count)
record_text (Method number rights nodes) = numbered (codes "method ") number ++ (numbered (codes ", rights ") rights ++ numbered (codes ", nodes ") nodes)
record_text (Node number f) =
    numbered (codes "node ") number
    ++ (numbered (codes ", kind ") f.kind ++ (numbered (codes ", mark ") f.mark ++ (numbered (codes ", flags ") f.flags
    ++ (numbered (codes ", callee ") f.callee ++ (numbered (codes ", grant ") f.grant ++ numbered (codes ", accept ") f.accept)))))
record_text (Edge number from to) = numbered (codes "edge ") number ++ (numbered (codes ", from ") from ++ numbered (codes " to ") to)
record_text (Row number) = numbered (codes "row ") number

-- a rule by how it is broken
abbrev pub rule_text : Rule → List ℕ
rule_text ShortFile = codes "there are fewer than 16 bytes"
rule_text (WrongLength wanted) = numbered (codes "the last body ends at byte ") wanted
rule_text (WrongPlace wanted) = numbered (codes "what stands before ends at byte ") wanted
rule_text (WrongCount low high) = numbered (codes "the count is not from ") low ++ numbered (codes " to ") high
rule_text NoNodes = codes "it has no nodes"
rule_text (SumPast sum nodes) = numbered (codes "up to here methods have ") sum ++ numbered (codes " nodes, and there are ") nodes
rule_text (SumShort sum nodes) = numbered (codes "all methods have ") sum ++ numbered (codes " nodes, and there are ") nodes
rule_text NoEntry = codes "none of its nodes is an entry"
rule_text UnknownKind = codes "there is no such kind"
rule_text WrongMark = codes "the mark is past 31"
rule_text UnknownFlag = codes "there is no such flag"
rule_text NotPrivileged = codes "it is privileged, and no call"
rule_text UnusedCallee = codes "it has a callee, and is no call"
rule_text UnusedGrant = codes "it has a grant, and is neither call nor check"
rule_text UnusedAccept = codes "it accepts rights, and is no call"
rule_text (NoCallee methods) = numbered (codes "there is no such callee, of ") methods ++ codes " methods"
rule_text (GrantOutside rights) = numbered (codes "it grants more than the rights ") rights ++ codes " of its method"
rule_text (AcceptOutside rights) = numbered (codes "it accepts more than the rights ") rights ++ codes " of its method"
rule_text (NoFrom nodes) = numbered (codes "it leaves no node, of ") nodes
rule_text (NoTo nodes) = numbered (codes "it leads to no node, of ") nodes
rule_text LeavesReturn = codes "it leaves a return"
rule_text (LeavesMethod from to) = numbered (codes "it leads from method ") from ++ numbered (codes " into method ") to
rule_text (NotRising from to) = numbered (codes "it does not rise above the edge before it, from ") from ++ numbered (codes " to ") to
rule_text (WrongCell mark cell) = numbered (codes "the cell of mark ") mark ++ (numbered (codes " is ") cell ++ codes ", neither the number of a row nor 255")

-- the record, where it stands, and the rule: "edge 2, from 15 to 3, at byte 152: it leads from method 4 into method 1"
abbrev pub explanation_text : Explanation → List ℕ
explanation_text e = record_text e.what ++ (numbered (codes ", at byte ") e.at ++ (codes ": " ++ rule_text e.broken))

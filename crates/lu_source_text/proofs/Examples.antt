-- Sources that are read as the definitions say.
use Rattle.std.proofs.Common.{◌≡◌, List, [], ◌∷◌, Option, Some, None, refl}
use Rattle.std.specs.Prelude.{ℕ, Result, Ok, Err, codes, map}
use Rattle.lu_component.specs.declared.instr.Arithmetic.TheVariants.{Add, Sub, Mul, Eq, Lt}
use Rattle.lu_component.specs.declared.instr.Instr.{Instr}
use Rattle.lu_component.specs.declared.instr.Instr.TheVariants as instr
use Rattle.lu_component.specs.declared.instr.Operand.TheVariants.{Reg, Num}
use Rattle.lu_text.specs.declared.fault.Fault.{Fault}
use Rattle.lu_text.specs.declared.fault.Fault.TheVariants.{At, Memory}
use Rattle.lu_text.specs.Faults.{lines_after, meaning_of_lines}
use Rattle.lu_source.specs.Code.{operation_code}
use Rattle.lu_source_text.specs.Grammar.{Kind, line_of, source_grammar, source_words}
use Rattle.lu_source_text.specs.declared.fault.SourceFaultKind.TheVariants.{Missing, Form, Number as Number', Limit, Registers, Flow, Name}
use Rattle.lu_source.specs.Trees.{Program}

-- the words of a line
words : source_words (codes "if a<=next[i]&&!b{# c") ≡ codes "if" ∷ codes "a" ∷ codes "<=" ∷ codes "next" ∷ codes "[" ∷ codes "i" ∷ codes "]" ∷ codes "&&" ∷ codes "!" ∷ codes "b" ∷ codes "{" ∷ []
words = refl

-- the code of each operation
codes_in : Result Program (Fault Kind) → List (List Instr)
codes_in (Ok p) = map (λ o. operation_code o.body) p.operations
codes_in (Err e) = []

bounded_queue : List (List ℕ)
bounded_queue =
    codes "object bounded_queue"
    ∷ codes "const SLOTS = 2"
    ∷ codes "word ticket[SLOTS]"
    ∷ codes "word value[SLOTS]"
    ∷ codes "word puts"
    ∷ codes "word takes"
    ∷ codes "op put(item) {"
    ∷ codes "    loop {"
    ∷ codes "        let turn = puts"
    ∷ codes "        let slot = turn - SLOTS * (turn >= SLOTS)"
    ∷ codes "        if ticket[slot] == turn - slot {"
    ∷ codes "            if cas(puts, turn, turn + 1) {"
    ∷ codes "                value[slot] = item"
    ∷ codes "                ticket[slot] = turn - slot + 1"
    ∷ codes "                return 1"
    ∷ codes "            }"
    ∷ codes "        } else if takes + SLOTS == turn && puts == turn {"
    ∷ codes "            return 0"
    ∷ codes "        }"
    ∷ codes "    }"
    ∷ codes "}"
    ∷ codes "op take() {"
    ∷ codes "    loop {"
    ∷ codes "        let turn = takes"
    ∷ codes "        let slot = turn - SLOTS * (turn >= SLOTS)"
    ∷ codes "        if ticket[slot] == turn - slot + 1 {"
    ∷ codes "            if cas(takes, turn, turn + 1) {"
    ∷ codes "                let item = value[slot]"
    ∷ codes "                ticket[slot] = turn - slot + SLOTS"
    ∷ codes "                return item"
    ∷ codes "            }"
    ∷ codes "        } else if puts == turn && takes == turn {"
    ∷ codes "            return 0"
    ∷ codes "        }"
    ∷ codes "    }"
    ∷ codes "}" ∷ []

bounded_queue_code : codes_in (meaning_of_lines source_grammar bounded_queue) ≡ (instr.Load 1 2 (Num 0) ∷ instr.Compute Lt 2 (Reg 1) (Num 2) ∷ instr.Compute Eq 2 (Reg 2) (Num 0) ∷ instr.Compute Mul 2 (Num 2) (Reg 2) ∷ instr.Compute Sub 2 (Reg 1) (Reg 2) ∷ instr.Load 3 0 (Reg 2) ∷ instr.Compute Sub 4 (Reg 1) (Reg 2) ∷ instr.Compute Eq 3 (Reg 3) (Reg 4) ∷ instr.JumpIfZero (Reg 3) 18 ∷ instr.Compute Add 3 (Reg 1) (Num 1) ∷ instr.Cas 3 2 (Num 0) (Reg 1) (Reg 3) ∷ instr.JumpIfZero (Reg 3) 17 ∷ instr.Store 1 (Reg 2) (Reg 0) ∷ instr.Compute Sub 3 (Reg 1) (Reg 2) ∷ instr.Compute Add 3 (Reg 3) (Num 1) ∷ instr.Store 0 (Reg 2) (Reg 3) ∷ instr.Return (Num 1) ∷ instr.Jump 26 ∷ instr.Load 3 3 (Num 0) ∷ instr.Compute Add 3 (Reg 3) (Num 2) ∷ instr.Compute Eq 3 (Reg 3) (Reg 1) ∷ instr.JumpIfZero (Reg 3) 24 ∷ instr.Load 3 2 (Num 0) ∷ instr.Compute Eq 3 (Reg 3) (Reg 1) ∷ instr.JumpIfZero (Reg 3) 26 ∷ instr.Return (Num 0) ∷ instr.Jump 0 ∷ []) ∷ (instr.Load 0 3 (Num 0) ∷ instr.Compute Lt 1 (Reg 0) (Num 2) ∷ instr.Compute Eq 1 (Reg 1) (Num 0) ∷ instr.Compute Mul 1 (Num 2) (Reg 1) ∷ instr.Compute Sub 1 (Reg 0) (Reg 1) ∷ instr.Load 2 0 (Reg 1) ∷ instr.Compute Sub 3 (Reg 0) (Reg 1) ∷ instr.Compute Add 3 (Reg 3) (Num 1) ∷ instr.Compute Eq 2 (Reg 2) (Reg 3) ∷ instr.JumpIfZero (Reg 2) 19 ∷ instr.Compute Add 2 (Reg 0) (Num 1) ∷ instr.Cas 2 3 (Num 0) (Reg 0) (Reg 2) ∷ instr.JumpIfZero (Reg 2) 18 ∷ instr.Load 2 1 (Reg 1) ∷ instr.Compute Sub 3 (Reg 0) (Reg 1) ∷ instr.Compute Add 3 (Reg 3) (Num 2) ∷ instr.Store 0 (Reg 1) (Reg 3) ∷ instr.Return (Reg 2) ∷ instr.Jump 26 ∷ instr.Load 2 2 (Num 0) ∷ instr.Compute Eq 2 (Reg 2) (Reg 0) ∷ instr.JumpIfZero (Reg 2) 24 ∷ instr.Load 2 3 (Num 0) ∷ instr.Compute Eq 2 (Reg 2) (Reg 0) ∷ instr.JumpIfZero (Reg 2) 26 ∷ instr.Return (Num 0) ∷ instr.Jump 0 ∷ []) ∷ []
unfolding codes_in bounded_queue lines_after line_of
bounded_queue_code = refl

herlihy_wing_queue : List (List ℕ)
herlihy_wing_queue =
    codes "object herlihy_wing_queue"
    ∷ codes "const EMPTY = 0"
    ∷ codes "word back"
    ∷ codes "word slot[4] = EMPTY"
    ∷ codes "op enqueue(item) {"
    ∷ codes "    let mine = back"
    ∷ codes "    while !cas(back, mine, mine + 1) {"
    ∷ codes "        mine = back"
    ∷ codes "    }"
    ∷ codes "    slot[mine] = item"
    ∷ codes "    return 0"
    ∷ codes "}"
    ∷ codes "op dequeue() {"
    ∷ codes "    let end = back"
    ∷ codes "    let i = 0"
    ∷ codes "    while i != end {"
    ∷ codes "        let item = slot[i]"
    ∷ codes "        if item != EMPTY && cas(slot[i], item, EMPTY) {"
    ∷ codes "            return item"
    ∷ codes "        }"
    ∷ codes "        i = i + 1"
    ∷ codes "    }"
    ∷ codes "    return EMPTY"
    ∷ codes "}" ∷ []

herlihy_wing_queue_code : codes_in (meaning_of_lines source_grammar herlihy_wing_queue) ≡ (instr.Load 1 0 (Num 0) ∷ instr.Compute Add 2 (Reg 1) (Num 1) ∷ instr.Cas 2 0 (Num 0) (Reg 1) (Reg 2) ∷ instr.Compute Eq 2 (Reg 2) (Num 0) ∷ instr.JumpIfZero (Reg 2) 7 ∷ instr.Load 1 0 (Num 0) ∷ instr.Jump 1 ∷ instr.Store 1 (Reg 1) (Reg 0) ∷ instr.Return (Num 0) ∷ []) ∷ (instr.Load 0 0 (Num 0) ∷ instr.Set 1 (Num 0) ∷ instr.Compute Sub 2 (Reg 1) (Reg 0) ∷ instr.JumpIfZero (Reg 2) 13 ∷ instr.Load 2 1 (Reg 1) ∷ instr.Compute Eq 3 (Reg 2) (Num 0) ∷ instr.Compute Eq 3 (Reg 3) (Num 0) ∷ instr.JumpIfZero (Reg 3) 9 ∷ instr.Cas 3 1 (Reg 1) (Reg 2) (Num 0) ∷ instr.JumpIfZero (Reg 3) 11 ∷ instr.Return (Reg 2) ∷ instr.Compute Add 1 (Reg 1) (Num 1) ∷ instr.Jump 2 ∷ instr.Return (Num 0) ∷ []) ∷ []
unfolding codes_in herlihy_wing_queue lines_after line_of
herlihy_wing_queue_code = refl

mcs_lock : List (List ℕ)
mcs_lock =
    codes "object mcs_lock"
    ∷ codes "const NONE = 0"
    ∷ codes "word tail = NONE"
    ∷ codes "word next[3] = NONE"
    ∷ codes "word waits[3]"
    ∷ codes "word count"
    ∷ codes "op inc(node) {"
    ∷ codes "    next[node] = NONE"
    ∷ codes "    waits[node] = 1"
    ∷ codes "    let before = tail"
    ∷ codes "    while !cas(tail, before, node) {"
    ∷ codes "        before = tail"
    ∷ codes "    }"
    ∷ codes "    if before != NONE {"
    ∷ codes "        next[before] = node"
    ∷ codes "        await waits[node] == 0"
    ∷ codes "    }"
    ∷ codes "    let n = count + 1"
    ∷ codes "    count = n"
    ∷ codes "    let after = next[node]"
    ∷ codes "    if after == NONE {"
    ∷ codes "        if cas(tail, node, NONE) {"
    ∷ codes "            return n"
    ∷ codes "        }"
    ∷ codes "        await next[node] != NONE"
    ∷ codes "        after = next[node]"
    ∷ codes "    }"
    ∷ codes "    waits[after] = 0"
    ∷ codes "    return n"
    ∷ codes "}" ∷ []

mcs_lock_code : codes_in (meaning_of_lines source_grammar mcs_lock) ≡ (instr.Store 1 (Reg 0) (Num 0) ∷ instr.Store 2 (Reg 0) (Num 1) ∷ instr.Load 1 0 (Num 0) ∷ instr.Cas 2 0 (Num 0) (Reg 1) (Reg 0) ∷ instr.Compute Eq 2 (Reg 2) (Num 0) ∷ instr.JumpIfZero (Reg 2) 8 ∷ instr.Load 1 0 (Num 0) ∷ instr.Jump 3 ∷ instr.Compute Sub 2 (Reg 1) (Num 0) ∷ instr.JumpIfZero (Reg 2) 12 ∷ instr.Store 1 (Reg 1) (Reg 0) ∷ instr.Await 2 (Reg 0) (Num 0) ∷ instr.Load 2 3 (Num 0) ∷ instr.Compute Add 2 (Reg 2) (Num 1) ∷ instr.Store 3 (Num 0) (Reg 2) ∷ instr.Load 3 1 (Reg 0) ∷ instr.Compute Eq 4 (Reg 3) (Num 0) ∷ instr.JumpIfZero (Reg 4) 23 ∷ instr.Cas 4 0 (Num 0) (Reg 0) (Num 0) ∷ instr.JumpIfZero (Reg 4) 21 ∷ instr.Return (Reg 2) ∷ instr.AwaitNot 1 (Reg 0) (Num 0) ∷ instr.Load 3 1 (Reg 0) ∷ instr.Store 2 (Reg 3) (Num 0) ∷ instr.Return (Reg 2) ∷ []) ∷ []
unfolding codes_in mcs_lock lines_after line_of
mcs_lock_code = refl

michael_scott_queue : List (List ℕ)
michael_scott_queue =
    codes "object michael_scott_queue"
    ∷ codes "const NONE = 0"
    ∷ codes "word head = 1"
    ∷ codes "word tail = 1"
    ∷ codes "word next[6] = NONE"
    ∷ codes "op enqueue(node) {"
    ∷ codes "    loop {"
    ∷ codes "        let last = tail"
    ∷ codes "        let after = next[last]"
    ∷ codes "        if after != NONE {"
    ∷ codes "            cas(tail, last, after)"
    ∷ codes "        } else if cas(next[last], NONE, node) {"
    ∷ codes "            cas(tail, last, node)"
    ∷ codes "            return 0"
    ∷ codes "        }"
    ∷ codes "    }"
    ∷ codes "}"
    ∷ codes "op dequeue() {"
    ∷ codes "    loop {"
    ∷ codes "        let dummy = head"
    ∷ codes "        let last = tail"
    ∷ codes "        let first = next[dummy]"
    ∷ codes "        if dummy == last {"
    ∷ codes "            if first == NONE {"
    ∷ codes "                return NONE"
    ∷ codes "            }"
    ∷ codes "            cas(tail, last, first)"
    ∷ codes "        } else if cas(head, dummy, first) {"
    ∷ codes "            return first"
    ∷ codes "        }"
    ∷ codes "    }"
    ∷ codes "}" ∷ []

michael_scott_queue_code : codes_in (meaning_of_lines source_grammar michael_scott_queue) ≡ (instr.Load 1 1 (Num 0) ∷ instr.Load 2 2 (Reg 1) ∷ instr.Compute Sub 3 (Reg 2) (Num 0) ∷ instr.JumpIfZero (Reg 3) 6 ∷ instr.Cas 3 1 (Num 0) (Reg 1) (Reg 2) ∷ instr.Jump 10 ∷ instr.Cas 3 2 (Reg 1) (Num 0) (Reg 0) ∷ instr.JumpIfZero (Reg 3) 10 ∷ instr.Cas 3 1 (Num 0) (Reg 1) (Reg 0) ∷ instr.Return (Num 0) ∷ instr.Jump 0 ∷ []) ∷ (instr.Load 0 0 (Num 0) ∷ instr.Load 1 1 (Num 0) ∷ instr.Load 2 2 (Reg 0) ∷ instr.Compute Eq 3 (Reg 0) (Reg 1) ∷ instr.JumpIfZero (Reg 3) 10 ∷ instr.Compute Eq 3 (Reg 2) (Num 0) ∷ instr.JumpIfZero (Reg 3) 8 ∷ instr.Return (Num 0) ∷ instr.Cas 3 1 (Num 0) (Reg 1) (Reg 2) ∷ instr.Jump 13 ∷ instr.Cas 3 0 (Num 0) (Reg 0) (Reg 2) ∷ instr.JumpIfZero (Reg 3) 13 ∷ instr.Return (Reg 2) ∷ instr.Jump 0 ∷ []) ∷ []
unfolding codes_in michael_scott_queue lines_after line_of
michael_scott_queue_code = refl

peterson : List (List ℕ)
peterson =
    codes "object peterson"
    ∷ codes "word wants[2]"
    ∷ codes "word turn"
    ∷ codes "word count"
    ∷ codes "op inc(me) {"
    ∷ codes "    let other = 1 - me"
    ∷ codes "    wants[me] = 1"
    ∷ codes "    turn = other"
    ∷ codes "    while wants[other] && turn == other {"
    ∷ codes "    }"
    ∷ codes "    let n = count + 1"
    ∷ codes "    count = n"
    ∷ codes "    wants[me] = 0"
    ∷ codes "    return n"
    ∷ codes "}" ∷ []

peterson_code : codes_in (meaning_of_lines source_grammar peterson) ≡ (instr.Compute Sub 1 (Num 1) (Reg 0) ∷ instr.Store 0 (Reg 0) (Num 1) ∷ instr.Store 1 (Num 0) (Reg 1) ∷ instr.Load 2 0 (Reg 1) ∷ instr.JumpIfZero (Reg 2) 7 ∷ instr.Load 2 1 (Num 0) ∷ instr.Compute Eq 2 (Reg 2) (Reg 1) ∷ instr.JumpIfZero (Reg 2) 9 ∷ instr.Jump 3 ∷ instr.Load 2 2 (Num 0) ∷ instr.Compute Add 2 (Reg 2) (Num 1) ∷ instr.Store 2 (Num 0) (Reg 2) ∷ instr.Store 0 (Reg 0) (Num 0) ∷ instr.Return (Reg 2) ∷ []) ∷ []
unfolding codes_in peterson lines_after line_of
peterson_code = refl

readers_writer_lock : List (List ℕ)
readers_writer_lock =
    codes "object readers_writer_lock"
    ∷ codes "lock mutex"
    ∷ codes "word readers"
    ∷ codes "word writer"
    ∷ codes "word data[2]"
    ∷ codes "op write(value) {"
    ∷ codes "    loop {"
    ∷ codes "        await writer == 0"
    ∷ codes "        if cas(writer, 0, 1) {"
    ∷ codes "            break"
    ∷ codes "        }"
    ∷ codes "    }"
    ∷ codes "    data[0] = value"
    ∷ codes "    data[1] = value"
    ∷ codes "    writer = 0"
    ∷ codes "    return 0"
    ∷ codes "}"
    ∷ codes "op read() {"
    ∷ codes "    lock mutex"
    ∷ codes "    let more = readers + 1"
    ∷ codes "    readers = more"
    ∷ codes "    if more == 1 {"
    ∷ codes "        loop {"
    ∷ codes "            await writer == 0"
    ∷ codes "            if cas(writer, 0, 1) {"
    ∷ codes "                break"
    ∷ codes "            }"
    ∷ codes "        }"
    ∷ codes "    }"
    ∷ codes "    unlock mutex"
    ∷ codes "    let left = data[0]"
    ∷ codes "    let right = data[1]"
    ∷ codes "    lock mutex"
    ∷ codes "    let fewer = readers - 1"
    ∷ codes "    readers = fewer"
    ∷ codes "    if fewer == 0 {"
    ∷ codes "        writer = 0"
    ∷ codes "    }"
    ∷ codes "    unlock mutex"
    ∷ codes "    return left == right"
    ∷ codes "}" ∷ []

readers_writer_lock_code : codes_in (meaning_of_lines source_grammar readers_writer_lock) ≡ (instr.Await 1 (Num 0) (Num 0) ∷ instr.Cas 1 1 (Num 0) (Num 0) (Num 1) ∷ instr.JumpIfZero (Reg 1) 4 ∷ instr.Jump 5 ∷ instr.Jump 0 ∷ instr.Store 2 (Num 0) (Reg 0) ∷ instr.Store 2 (Num 1) (Reg 0) ∷ instr.Store 1 (Num 0) (Num 0) ∷ instr.Return (Num 0) ∷ []) ∷ (instr.Lock 0 ∷ instr.Load 0 0 (Num 0) ∷ instr.Compute Add 0 (Reg 0) (Num 1) ∷ instr.Store 0 (Num 0) (Reg 0) ∷ instr.Compute Eq 1 (Reg 0) (Num 1) ∷ instr.JumpIfZero (Reg 1) 11 ∷ instr.Await 1 (Num 0) (Num 0) ∷ instr.Cas 1 1 (Num 0) (Num 0) (Num 1) ∷ instr.JumpIfZero (Reg 1) 10 ∷ instr.Jump 11 ∷ instr.Jump 6 ∷ instr.Unlock 0 ∷ instr.Load 1 2 (Num 0) ∷ instr.Load 2 2 (Num 1) ∷ instr.Lock 0 ∷ instr.Load 3 0 (Num 0) ∷ instr.Compute Sub 3 (Reg 3) (Num 1) ∷ instr.Store 0 (Num 0) (Reg 3) ∷ instr.Compute Eq 4 (Reg 3) (Num 0) ∷ instr.JumpIfZero (Reg 4) 21 ∷ instr.Store 1 (Num 0) (Num 0) ∷ instr.Unlock 0 ∷ instr.Compute Eq 4 (Reg 1) (Reg 2) ∷ instr.Return (Reg 4) ∷ []) ∷ []
unfolding codes_in readers_writer_lock lines_after line_of
readers_writer_lock_code = refl

semaphore : List (List ℕ)
semaphore =
    codes "object semaphore"
    ∷ codes "word permits = 1"
    ∷ codes "op acquire() {"
    ∷ codes "    loop {"
    ∷ codes "        await permits != 0"
    ∷ codes "        let n = permits"
    ∷ codes "        if n != 0 && cas(permits, n, n - 1) {"
    ∷ codes "            return 0"
    ∷ codes "        }"
    ∷ codes "    }"
    ∷ codes "}"
    ∷ codes "op release() {"
    ∷ codes "    loop {"
    ∷ codes "        let n = permits"
    ∷ codes "        if cas(permits, n, n + 1) {"
    ∷ codes "            return 0"
    ∷ codes "        }"
    ∷ codes "    }"
    ∷ codes "}" ∷ []

semaphore_code : codes_in (meaning_of_lines source_grammar semaphore) ≡ (instr.AwaitNot 0 (Num 0) (Num 0) ∷ instr.Load 0 0 (Num 0) ∷ instr.Compute Eq 1 (Reg 0) (Num 0) ∷ instr.Compute Eq 1 (Reg 1) (Num 0) ∷ instr.JumpIfZero (Reg 1) 7 ∷ instr.Compute Sub 1 (Reg 0) (Num 1) ∷ instr.Cas 1 0 (Num 0) (Reg 0) (Reg 1) ∷ instr.JumpIfZero (Reg 1) 9 ∷ instr.Return (Num 0) ∷ instr.Jump 0 ∷ []) ∷ (instr.Load 0 0 (Num 0) ∷ instr.Compute Add 1 (Reg 0) (Num 1) ∷ instr.Cas 1 0 (Num 0) (Reg 0) (Reg 1) ∷ instr.JumpIfZero (Reg 1) 5 ∷ instr.Return (Num 0) ∷ instr.Jump 0 ∷ []) ∷ []
unfolding codes_in semaphore lines_after line_of
semaphore_code = refl

seqlock : List (List ℕ)
seqlock =
    codes "object seqlock"
    ∷ codes "word sequence"
    ∷ codes "word data[2]"
    ∷ codes "op write(value) {"
    ∷ codes "    let odd = sequence + 1"
    ∷ codes "    sequence = odd"
    ∷ codes "    data[0] = value"
    ∷ codes "    data[1] = value"
    ∷ codes "    sequence = odd + 1"
    ∷ codes "    return 0"
    ∷ codes "}"
    ∷ codes "op read() {"
    ∷ codes "    loop {"
    ∷ codes "        let before = sequence"
    ∷ codes "        if before == 1 {"
    ∷ codes "            await sequence == 2"
    ∷ codes "            continue"
    ∷ codes "        }"
    ∷ codes "        let left = data[0]"
    ∷ codes "        let right = data[1]"
    ∷ codes "        if sequence == before {"
    ∷ codes "            return left == right"
    ∷ codes "        }"
    ∷ codes "    }"
    ∷ codes "}" ∷ []

seqlock_code : codes_in (meaning_of_lines source_grammar seqlock) ≡ (instr.Load 1 0 (Num 0) ∷ instr.Compute Add 1 (Reg 1) (Num 1) ∷ instr.Store 0 (Num 0) (Reg 1) ∷ instr.Store 1 (Num 0) (Reg 0) ∷ instr.Store 1 (Num 1) (Reg 0) ∷ instr.Compute Add 2 (Reg 1) (Num 1) ∷ instr.Store 0 (Num 0) (Reg 2) ∷ instr.Return (Num 0) ∷ []) ∷ (instr.Load 0 0 (Num 0) ∷ instr.Compute Eq 1 (Reg 0) (Num 1) ∷ instr.JumpIfZero (Reg 1) 5 ∷ instr.Await 0 (Num 0) (Num 2) ∷ instr.Jump 0 ∷ instr.Load 1 1 (Num 0) ∷ instr.Load 2 1 (Num 1) ∷ instr.Load 3 0 (Num 0) ∷ instr.Compute Eq 3 (Reg 3) (Reg 0) ∷ instr.JumpIfZero (Reg 3) 12 ∷ instr.Compute Eq 3 (Reg 1) (Reg 2) ∷ instr.Return (Reg 3) ∷ instr.Jump 0 ∷ []) ∷ []
unfolding codes_in seqlock lines_after line_of
seqlock_code = refl

ticket_lock : List (List ℕ)
ticket_lock =
    codes "object ticket_lock"
    ∷ codes "local 0"
    ∷ codes "word next"
    ∷ codes "word served"
    ∷ codes "word count"
    ∷ codes "op inc() {"
    ∷ codes "    let ticket = next"
    ∷ codes "    while !cas(next, ticket, ticket + 1) {"
    ∷ codes "        ticket = next"
    ∷ codes "    }"
    ∷ codes "    await served == ticket"
    ∷ codes "    let n = count + 1"
    ∷ codes "    count = n"
    ∷ codes "    served = ticket + 1"
    ∷ codes "    return n"
    ∷ codes "}" ∷ []

ticket_lock_code : codes_in (meaning_of_lines source_grammar ticket_lock) ≡ (instr.Load 0 0 (Num 0) ∷ instr.Compute Add 1 (Reg 0) (Num 1) ∷ instr.Cas 1 0 (Num 0) (Reg 0) (Reg 1) ∷ instr.Compute Eq 1 (Reg 1) (Num 0) ∷ instr.JumpIfZero (Reg 1) 7 ∷ instr.Load 0 0 (Num 0) ∷ instr.Jump 1 ∷ instr.Await 1 (Num 0) (Reg 0) ∷ instr.Load 1 2 (Num 0) ∷ instr.Compute Add 1 (Reg 1) (Num 1) ∷ instr.Store 2 (Num 0) (Reg 1) ∷ instr.Compute Add 2 (Reg 0) (Num 1) ∷ instr.Store 1 (Num 0) (Reg 2) ∷ instr.Return (Reg 1) ∷ []) ∷ []
unfolding codes_in ticket_lock lines_after line_of
ticket_lock_code = refl

treiber_stack : List (List ℕ)
treiber_stack =
    codes "object treiber_stack"
    ∷ codes "const NONE = 0"
    ∷ codes "word top = NONE"
    ∷ codes "word next[4] = NONE"
    ∷ codes "op push(node) {"
    ∷ codes "    loop {"
    ∷ codes "        let head = top"
    ∷ codes "        next[node] = head"
    ∷ codes "        if cas(top, head, node) {"
    ∷ codes "            return 0"
    ∷ codes "        }"
    ∷ codes "    }"
    ∷ codes "}"
    ∷ codes "op pop() {"
    ∷ codes "    loop {"
    ∷ codes "        let head = top"
    ∷ codes "        if head == NONE {"
    ∷ codes "            return NONE"
    ∷ codes "        }"
    ∷ codes "        let below = next[head]"
    ∷ codes "        if cas(top, head, below) {"
    ∷ codes "            return head"
    ∷ codes "        }"
    ∷ codes "    }"
    ∷ codes "}" ∷ []

treiber_stack_code : codes_in (meaning_of_lines source_grammar treiber_stack) ≡ (instr.Load 1 0 (Num 0) ∷ instr.Store 1 (Reg 0) (Reg 1) ∷ instr.Cas 2 0 (Num 0) (Reg 1) (Reg 0) ∷ instr.JumpIfZero (Reg 2) 5 ∷ instr.Return (Num 0) ∷ instr.Jump 0 ∷ []) ∷ (instr.Load 0 0 (Num 0) ∷ instr.Compute Eq 1 (Reg 0) (Num 0) ∷ instr.JumpIfZero (Reg 1) 4 ∷ instr.Return (Num 0) ∷ instr.Load 1 1 (Reg 0) ∷ instr.Cas 2 0 (Num 0) (Reg 0) (Reg 1) ∷ instr.JumpIfZero (Reg 2) 8 ∷ instr.Return (Reg 0) ∷ instr.Jump 0 ∷ []) ∷ []
unfolding codes_in treiber_stack lines_after line_of
treiber_stack_code = refl

chase_lev_deque : List (List ℕ)
chase_lev_deque =
    codes "object chase_lev_deque"
    ∷ codes "const NONE = 0"
    ∷ codes "word top = 1"
    ∷ codes "word bottom = 1"
    ∷ codes "word slot[8]"
    ∷ codes "op push(item) {"
    ∷ codes "    let at = bottom"
    ∷ codes "    slot[at] = item"
    ∷ codes "    bottom = at + 1"
    ∷ codes "}"
    ∷ codes "op pop() {"
    ∷ codes "    let at = bottom - 1"
    ∷ codes "    bottom = at"
    ∷ codes "    let first = top"
    ∷ codes "    if at < first {"
    ∷ codes "        bottom = first"
    ∷ codes "        return NONE"
    ∷ codes "    }"
    ∷ codes "    let item = slot[at]"
    ∷ codes "    if at == first {"
    ∷ codes "        let mine = cas(top, first, first + 1)"
    ∷ codes "        bottom = first + 1"
    ∷ codes "        if !mine {"
    ∷ codes "            return NONE"
    ∷ codes "        }"
    ∷ codes "    }"
    ∷ codes "    return item"
    ∷ codes "}"
    ∷ codes "op steal() {"
    ∷ codes "    loop {"
    ∷ codes "        let first = top"
    ∷ codes "        let end = bottom"
    ∷ codes "        if first >= end {"
    ∷ codes "            return NONE"
    ∷ codes "        }"
    ∷ codes "        let item = slot[first]"
    ∷ codes "        if cas(top, first, first + 1) {"
    ∷ codes "            return item"
    ∷ codes "        }"
    ∷ codes "    }"
    ∷ codes "}" ∷ []

chase_lev_deque_code : codes_in (meaning_of_lines source_grammar chase_lev_deque) ≡ (instr.Load 1 1 (Num 0) ∷ instr.Store 2 (Reg 1) (Reg 0) ∷ instr.Compute Add 2 (Reg 1) (Num 1) ∷ instr.Store 1 (Num 0) (Reg 2) ∷ instr.Return (Num 0) ∷ []) ∷ (instr.Load 0 1 (Num 0) ∷ instr.Compute Sub 0 (Reg 0) (Num 1) ∷ instr.Store 1 (Num 0) (Reg 0) ∷ instr.Load 1 0 (Num 0) ∷ instr.Compute Lt 2 (Reg 0) (Reg 1) ∷ instr.JumpIfZero (Reg 2) 8 ∷ instr.Store 1 (Num 0) (Reg 1) ∷ instr.Return (Num 0) ∷ instr.Load 2 2 (Reg 0) ∷ instr.Compute Eq 3 (Reg 0) (Reg 1) ∷ instr.JumpIfZero (Reg 3) 18 ∷ instr.Compute Add 3 (Reg 1) (Num 1) ∷ instr.Cas 3 0 (Num 0) (Reg 1) (Reg 3) ∷ instr.Compute Add 4 (Reg 1) (Num 1) ∷ instr.Store 1 (Num 0) (Reg 4) ∷ instr.Compute Eq 4 (Reg 3) (Num 0) ∷ instr.JumpIfZero (Reg 4) 18 ∷ instr.Return (Num 0) ∷ instr.Return (Reg 2) ∷ []) ∷ (instr.Load 0 0 (Num 0) ∷ instr.Load 1 1 (Num 0) ∷ instr.Compute Lt 2 (Reg 0) (Reg 1) ∷ instr.Compute Eq 2 (Reg 2) (Num 0) ∷ instr.JumpIfZero (Reg 2) 6 ∷ instr.Return (Num 0) ∷ instr.Load 2 2 (Reg 0) ∷ instr.Compute Add 3 (Reg 0) (Num 1) ∷ instr.Cas 3 0 (Num 0) (Reg 0) (Reg 3) ∷ instr.JumpIfZero (Reg 3) 11 ∷ instr.Return (Reg 2) ∷ instr.Jump 0 ∷ []) ∷ []
unfolding codes_in chase_lev_deque lines_after line_of
chase_lev_deque_code = refl

clh_lock : List (List ℕ)
clh_lock =
    codes "object clh_lock"
    ∷ codes "word tail"
    ∷ codes "word waits[3]"
    ∷ codes "word own[3]"
    ∷ codes "word count"
    ∷ codes "op inc(me) {"
    ∷ codes "    let node = own[me] + me"
    ∷ codes "    waits[node] = 1"
    ∷ codes "    let before = tail"
    ∷ codes "    while !cas(tail, before, node) {"
    ∷ codes "        before = tail"
    ∷ codes "    }"
    ∷ codes "    await waits[before] == 0"
    ∷ codes "    let n = count + 1"
    ∷ codes "    count = n"
    ∷ codes "    own[me] = before - me"
    ∷ codes "    waits[node] = 0"
    ∷ codes "    return n"
    ∷ codes "}" ∷ []

clh_lock_code : codes_in (meaning_of_lines source_grammar clh_lock) ≡ (instr.Load 1 2 (Reg 0) ∷ instr.Compute Add 1 (Reg 1) (Reg 0) ∷ instr.Store 1 (Reg 1) (Num 1) ∷ instr.Load 2 0 (Num 0) ∷ instr.Cas 3 0 (Num 0) (Reg 2) (Reg 1) ∷ instr.Compute Eq 3 (Reg 3) (Num 0) ∷ instr.JumpIfZero (Reg 3) 9 ∷ instr.Load 2 0 (Num 0) ∷ instr.Jump 4 ∷ instr.Await 1 (Reg 2) (Num 0) ∷ instr.Load 3 3 (Num 0) ∷ instr.Compute Add 3 (Reg 3) (Num 1) ∷ instr.Store 3 (Num 0) (Reg 3) ∷ instr.Compute Sub 4 (Reg 2) (Reg 0) ∷ instr.Store 2 (Reg 0) (Reg 4) ∷ instr.Store 1 (Reg 1) (Num 0) ∷ instr.Return (Reg 3) ∷ []) ∷ []
unfolding codes_in clh_lock lines_after line_of
clh_lock_code = refl

coin : List (List ℕ)
coin =
    codes "object coin"
    ∷ codes "local 0"
    ∷ codes "op toss() {"
    ∷ codes "    return pick(2)"
    ∷ codes "}" ∷ []

coin_code : codes_in (meaning_of_lines source_grammar coin) ≡ (instr.Pick 0 2 ∷ instr.Return (Reg 0) ∷ []) ∷ []
unfolding codes_in coin lines_after line_of
coin_code = refl

event : List (List ℕ)
event =
    codes "object event"
    ∷ codes "word state"
    ∷ codes "word woken"
    ∷ codes "op wait() {"
    ∷ codes "    loop {"
    ∷ codes "        let seen = state"
    ∷ codes "        if seen == 1 {"
    ∷ codes "            return 0"
    ∷ codes "        }"
    ∷ codes "        if cas(state, seen, seen + 2) {"
    ∷ codes "            break"
    ∷ codes "        }"
    ∷ codes "    }"
    ∷ codes "    await woken == 1"
    ∷ codes "    return 0"
    ∷ codes "}"
    ∷ codes "op set() {"
    ∷ codes "    loop {"
    ∷ codes "        let seen = state"
    ∷ codes "        if seen == 0 {"
    ∷ codes "            if cas(state, seen, 1) {"
    ∷ codes "                return 0"
    ∷ codes "            }"
    ∷ codes "        } else if cas(state, seen, 1) {"
    ∷ codes "            woken = 1"
    ∷ codes "            return 0"
    ∷ codes "        }"
    ∷ codes "    }"
    ∷ codes "}" ∷ []

event_code : codes_in (meaning_of_lines source_grammar event) ≡ (instr.Load 0 0 (Num 0) ∷ instr.Compute Eq 1 (Reg 0) (Num 1) ∷ instr.JumpIfZero (Reg 1) 4 ∷ instr.Return (Num 0) ∷ instr.Compute Add 1 (Reg 0) (Num 2) ∷ instr.Cas 1 0 (Num 0) (Reg 0) (Reg 1) ∷ instr.JumpIfZero (Reg 1) 8 ∷ instr.Jump 9 ∷ instr.Jump 0 ∷ instr.Await 1 (Num 0) (Num 1) ∷ instr.Return (Num 0) ∷ []) ∷ (instr.Load 0 0 (Num 0) ∷ instr.Compute Eq 1 (Reg 0) (Num 0) ∷ instr.JumpIfZero (Reg 1) 7 ∷ instr.Cas 1 0 (Num 0) (Reg 0) (Num 1) ∷ instr.JumpIfZero (Reg 1) 6 ∷ instr.Return (Num 0) ∷ instr.Jump 11 ∷ instr.Cas 1 0 (Num 0) (Reg 0) (Num 1) ∷ instr.JumpIfZero (Reg 1) 11 ∷ instr.Store 1 (Num 0) (Num 1) ∷ instr.Return (Num 0) ∷ instr.Jump 0 ∷ []) ∷ []
unfolding codes_in event lines_after line_of
event_code = refl

hazard_pointers : List (List ℕ)
hazard_pointers =
    codes "object hazard_pointers"
    ∷ codes "const NONE = 0"
    ∷ codes "word top"
    ∷ codes "word next[3]"
    ∷ codes "word hazard[2]"
    ∷ codes "op push(node, me) {"
    ∷ codes "    await hazard[1 - me] != node"
    ∷ codes "    loop {"
    ∷ codes "        let head = top"
    ∷ codes "        next[node] = head"
    ∷ codes "        if cas(top, head, node) {"
    ∷ codes "            return 0"
    ∷ codes "        }"
    ∷ codes "    }"
    ∷ codes "}"
    ∷ codes "op pop(me) {"
    ∷ codes "    let head = top"
    ∷ codes "    while head != NONE {"
    ∷ codes "        hazard[me] = head"
    ∷ codes "        if top == head {"
    ∷ codes "            let below = next[head]"
    ∷ codes "            if cas(top, head, below) {"
    ∷ codes "                break"
    ∷ codes "            }"
    ∷ codes "        }"
    ∷ codes "        head = top"
    ∷ codes "    }"
    ∷ codes "    hazard[me] = NONE"
    ∷ codes "    return head"
    ∷ codes "}" ∷ []

hazard_pointers_code : codes_in (meaning_of_lines source_grammar hazard_pointers) ≡ (instr.Compute Sub 2 (Num 1) (Reg 1) ∷ instr.AwaitNot 2 (Reg 2) (Reg 0) ∷ instr.Load 2 0 (Num 0) ∷ instr.Store 1 (Reg 0) (Reg 2) ∷ instr.Cas 3 0 (Num 0) (Reg 2) (Reg 0) ∷ instr.JumpIfZero (Reg 3) 7 ∷ instr.Return (Num 0) ∷ instr.Jump 2 ∷ []) ∷ (instr.Load 1 0 (Num 0) ∷ instr.Compute Sub 2 (Reg 1) (Num 0) ∷ instr.JumpIfZero (Reg 2) 13 ∷ instr.Store 2 (Reg 0) (Reg 1) ∷ instr.Load 2 0 (Num 0) ∷ instr.Compute Eq 2 (Reg 2) (Reg 1) ∷ instr.JumpIfZero (Reg 2) 11 ∷ instr.Load 2 1 (Reg 1) ∷ instr.Cas 3 0 (Num 0) (Reg 1) (Reg 2) ∷ instr.JumpIfZero (Reg 3) 11 ∷ instr.Jump 13 ∷ instr.Load 1 0 (Num 0) ∷ instr.Jump 1 ∷ instr.Store 2 (Reg 0) (Num 0) ∷ instr.Return (Reg 1) ∷ []) ∷ []
unfolding codes_in hazard_pointers lines_after line_of
hazard_pointers_code = refl

lock_order : List (List ℕ)
lock_order =
    codes "object lock_order"
    ∷ codes "local 0"
    ∷ codes "lock left"
    ∷ codes "lock right"
    ∷ codes "op move_right() {"
    ∷ codes "    lock left"
    ∷ codes "    lock right"
    ∷ codes "    unlock right"
    ∷ codes "    unlock left"
    ∷ codes "}"
    ∷ codes "op move_left() {"
    ∷ codes "    lock right"
    ∷ codes "    lock left"
    ∷ codes "    unlock left"
    ∷ codes "    unlock right"
    ∷ codes "}" ∷ []

lock_order_code : codes_in (meaning_of_lines source_grammar lock_order) ≡ (instr.Lock 0 ∷ instr.Lock 1 ∷ instr.Unlock 1 ∷ instr.Unlock 0 ∷ instr.Return (Num 0) ∷ []) ∷ (instr.Lock 1 ∷ instr.Lock 0 ∷ instr.Unlock 0 ∷ instr.Unlock 1 ∷ instr.Return (Num 0) ∷ []) ∷ []
unfolding codes_in lock_order lines_after line_of
lock_order_code = refl

-- ---- faults

fault_of : Result Program (Fault Kind) → Option (Kind × ℕ)
fault_of (Ok p) = None
fault_of (Err (At kind n)) = Some (kind, n)
fault_of (Err Memory) = None

no_object : fault_of (meaning_of_lines source_grammar (codes "component o" ∷ [])) ≡ Some (Missing, 1)
unfolding fault_of lines_after line_of
no_object = refl

open_end : fault_of (meaning_of_lines source_grammar (codes "object o" ∷ codes "word x" ∷ codes "word a[2]" ∷ codes "lock m" ∷ codes "const N = 2" ∷ codes "op f(i) {" ∷ codes "x = 1" ∷ [])) ≡ Some (Missing, 8)
unfolding fault_of lines_after line_of
open_end = refl

two_words : fault_of (meaning_of_lines source_grammar (codes "object o p" ∷ [])) ≡ Some (Form, 1)
unfolding fault_of lines_after line_of
two_words = refl

keyword_name : fault_of (meaning_of_lines source_grammar (codes "object o" ∷ codes "word while" ∷ [])) ≡ Some (Form, 2)
unfolding fault_of lines_after line_of
keyword_name = refl

name_twice : fault_of (meaning_of_lines source_grammar (codes "object o" ∷ codes "word x" ∷ codes "lock x" ∷ [])) ≡ Some (Name, 3)
unfolding fault_of lines_after line_of
name_twice = refl

unknown_name : fault_of (meaning_of_lines source_grammar (codes "object o" ∷ codes "word x" ∷ codes "word a[2]" ∷ codes "lock m" ∷ codes "const N = 2" ∷ codes "op f(i) {" ∷ codes "x = y" ∷ [])) ≡ Some (Name, 7)
unfolding fault_of lines_after line_of
unknown_name = refl

unknown_lock : fault_of (meaning_of_lines source_grammar (codes "object o" ∷ codes "word x" ∷ codes "word a[2]" ∷ codes "lock m" ∷ codes "const N = 2" ∷ codes "op f(i) {" ∷ codes "lock n" ∷ [])) ≡ Some (Name, 7)
unfolding fault_of lines_after line_of
unknown_lock = refl

leading_zero : fault_of (meaning_of_lines source_grammar (codes "object o" ∷ codes "const N = 01" ∷ [])) ≡ Some (Number', 2)
unfolding fault_of lines_after line_of
leading_zero = refl

large_number : fault_of (meaning_of_lines source_grammar (codes "object o" ∷ codes "word x" ∷ codes "word a[2]" ∷ codes "lock m" ∷ codes "const N = 2" ∷ codes "op f(i) {" ∷ codes "x = 4294967296" ∷ [])) ≡ Some (Number', 7)
unfolding fault_of lines_after line_of
large_number = refl

no_index : fault_of (meaning_of_lines source_grammar (codes "object o" ∷ codes "word x" ∷ codes "word a[2]" ∷ codes "lock m" ∷ codes "const N = 2" ∷ codes "op f(i) {" ∷ codes "a = 1" ∷ [])) ≡ Some (Form, 7)
unfolding fault_of lines_after line_of
no_index = refl

index_of_one : fault_of (meaning_of_lines source_grammar (codes "object o" ∷ codes "word x" ∷ codes "word a[2]" ∷ codes "lock m" ∷ codes "const N = 2" ∷ codes "op f(i) {" ∷ codes "x[0] = 1" ∷ [])) ≡ Some (Form, 7)
unfolding fault_of lines_after line_of
index_of_one = refl

chained : fault_of (meaning_of_lines source_grammar (codes "object o" ∷ codes "word x" ∷ codes "word a[2]" ∷ codes "lock m" ∷ codes "const N = 2" ∷ codes "op f(i) {" ∷ codes "return 1 < i < 3" ∷ [])) ≡ Some (Form, 7)
unfolding fault_of lines_after line_of
chained = refl

too_much : fault_of (meaning_of_lines source_grammar (codes "object o" ∷ codes "word x" ∷ codes "word a[2]" ∷ codes "lock m" ∷ codes "const N = 2" ∷ codes "op f(i) {" ∷ codes "return i i" ∷ [])) ≡ Some (Form, 7)
unfolding fault_of lines_after line_of
too_much = refl

pick_nine : fault_of (meaning_of_lines source_grammar (codes "object o" ∷ codes "word x" ∷ codes "word a[2]" ∷ codes "lock m" ∷ codes "const N = 2" ∷ codes "op f(i) {" ∷ codes "return pick(9)" ∷ [])) ≡ Some (Limit, 7)
unfolding fault_of lines_after line_of
pick_nine = refl

sixty_five_cells : fault_of (meaning_of_lines source_grammar (codes "object o" ∷ codes "word a[65]" ∷ [])) ≡ Some (Limit, 2)
unfolding fault_of lines_after line_of
sixty_five_cells = refl

five_arguments : fault_of (meaning_of_lines source_grammar (codes "object o" ∷ codes "op f(a, b, c, d, e) {" ∷ [])) ≡ Some (Limit, 2)
unfolding fault_of lines_after line_of
five_arguments = refl

break_outside : fault_of (meaning_of_lines source_grammar (codes "object o" ∷ codes "word x" ∷ codes "word a[2]" ∷ codes "lock m" ∷ codes "const N = 2" ∷ codes "op f(i) {" ∷ codes "break" ∷ [])) ≡ Some (Flow, 7)
unfolding fault_of lines_after line_of
break_outside = refl

dead_code : fault_of (meaning_of_lines source_grammar (codes "object o" ∷ codes "word x" ∷ codes "word a[2]" ∷ codes "lock m" ∷ codes "const N = 2" ∷ codes "op f(i) {" ∷ codes "return 1" ∷ codes "x = 1" ∷ [])) ≡ Some (Flow, 8)
unfolding fault_of lines_after line_of
dead_code = refl

dead_loop : fault_of (meaning_of_lines source_grammar (codes "object o" ∷ codes "word x" ∷ codes "word a[2]" ∷ codes "lock m" ∷ codes "const N = 2" ∷ codes "op f(i) {" ∷ codes "loop {" ∷ codes "}" ∷ codes "x = 1" ∷ [])) ≡ Some (Flow, 9)
unfolding fault_of lines_after line_of
dead_loop = refl

await_reads : fault_of (meaning_of_lines source_grammar (codes "object o" ∷ codes "word x" ∷ codes "word a[2]" ∷ codes "lock m" ∷ codes "const N = 2" ∷ codes "op f(i) {" ∷ codes "await x == a[0]" ∷ [])) ≡ Some (Flow, 7)
unfolding fault_of lines_after line_of
await_reads = refl

ninth_register : fault_of (meaning_of_lines source_grammar (codes "object o" ∷ codes "word x" ∷ codes "op f(a, b, c, d) {" ∷ codes "let e = 1" ∷ codes "let f = 2" ∷ codes "let g = 3" ∷ codes "let h = 4" ∷ codes "let i = 5" ∷ [])) ≡ Some (Registers, 8)
unfolding fault_of lines_after line_of
ninth_register = refl

local_hides : fault_of (meaning_of_lines source_grammar (codes "object o" ∷ codes "word x" ∷ codes "word a[2]" ∷ codes "lock m" ∷ codes "const N = 2" ∷ codes "op f(i) {" ∷ codes "let i = 1" ∷ [])) ≡ Some (Name, 7)
unfolding fault_of lines_after line_of
local_hides = refl

out_of_scope : fault_of (meaning_of_lines source_grammar (codes "object o" ∷ codes "word x" ∷ codes "word a[2]" ∷ codes "lock m" ∷ codes "const N = 2" ∷ codes "op f(i) {" ∷ codes "if i {" ∷ codes "let j = 1" ∷ codes "}" ∷ codes "x = j" ∷ [])) ≡ Some (Name, 10)
unfolding fault_of lines_after line_of
out_of_scope = refl

else_of_loop : fault_of (meaning_of_lines source_grammar (codes "object o" ∷ codes "word x" ∷ codes "word a[2]" ∷ codes "lock m" ∷ codes "const N = 2" ∷ codes "op f(i) {" ∷ codes "loop {" ∷ codes "} else {" ∷ [])) ≡ Some (Form, 8)
unfolding fault_of lines_after line_of
else_of_loop = refl

second_local : fault_of (meaning_of_lines source_grammar (codes "object o" ∷ codes "local 1" ∷ codes "local 2" ∷ [])) ≡ Some (Form, 3)
unfolding fault_of lines_after line_of
second_local = refl

-- Small files, in hex, with what each is read as: for each sentence of document 01's "Corpus file" some that a reader who took it otherwise would
-- read otherwise.
use Rattle.std.specs.Prelude.{ℕ, List, [], ◌∷◌, ◌++◌, replicate, ℤ, pos, negsuc, Some, None}
use Rattle.families.specs.declared.Kind.TheVariants.{Register, WORegister, Vec}
use Rattle.families.specs.declared.Op.{Op}
use Rattle.families.specs.declared.Op.TheVariants.{Register as ORegister, WORegister as OWORegister, Vec as OVec}
use Rattle.families.specs.declared.Ret.{Ret}
use Rattle.families.specs.declared.Ret.TheVariants.{Register as RRegister, WORegister as RWORegister, Vec as RVec}
use Rattle.objects.specs.declared.register.RegisterOp.TheVariants.{Write, Read}
use Rattle.objects.specs.declared.register.RegisterRet.TheVariants.{WriteOk, ReadOk}
use Rattle.objects.specs.declared.write_once_register.WORegisterOp.TheVariants.{Write as OnceWrite, Read as OnceRead}
use Rattle.objects.specs.declared.write_once_register.WORegisterRet.TheVariants.{WriteOk as OnceOk, WriteFail as OnceFail, ReadOk as OnceReadOk}
use Rattle.objects.specs.declared.vec.VecOp.TheVariants.{Push, Pop, Len}
use Rattle.objects.specs.declared.vec.VecRet.TheVariants.{PushOk, PopOk, LenOk}
use Rattle.stepping.specs.declared.histories.Operation.{Operation}
use Rattle.stepping.specs.Record.{operation}
use Rattle.corpus_meaning.specs.Reading.{SmallFile, starts, refuses, reads, stops, breaks}

-- An operation in flight, and one that has returned.

abbrev flies : ℕ → Op → Operation
flies t op = operation t op None

abbrev done : ℕ → Op → Ret → Operation
done t op ret = operation t op (Some ret)

-- Operations and returns, by the numbers that they have: 0 and 1 of each family, and 2 of the stack.

abbrev write : Op
write = ORegister (Write (pos 5))

abbrev read : Op
read = ORegister Read

abbrev once_write : Op
once_write = OWORegister (OnceWrite (pos 5))

abbrev once_read : Op
once_read = OWORegister OnceRead

abbrev push : Op
push = OVec (Push (pos 5))

abbrev pop : Op
pop = OVec Pop

abbrev len : Op
len = OVec Len

-- -7, which is sent as 0D; negsuc n is -(n + 1)
abbrev minus_7 : ℤ
minus_7 = negsuc 6

-- Bytes behind the opening.
abbrev pub file : List ℕ → List ℕ
file b = 0x52 ∷ 0x41 ∷ 0x57 ∷ 0x31 ∷ b

-- A register alone.
abbrev value : List ℕ → ℤ → SmallFile
value b v = starts (file b) (Register v) (v ∷ [])

-- The shortest headers: a register of 0, a write-once register of nothing, an empty stack. The first event behind them has place 6.

abbrev register : SmallFile
register = value (0x00 ∷ 0x00 ∷ []) (pos 0)

abbrev once : SmallFile
once = starts (file (0x01 ∷ 0x00 ∷ [])) (WORegister None) []

abbrev stack : SmallFile
stack = starts (file (0x02 ∷ 0x00 ∷ [])) (Vec 0) []

-- "A file opens with the four bytes 52 41 57 31 (hex)." 21 for any others, and where they are not all there; where nothing stands behind them, the object
-- is cut off.
abbrev opened : List SmallFile
opened =
    register
    ∷ refuses [] 21
    ∷ refuses (0x52 ∷ 0x41 ∷ []) 21
    ∷ refuses (0x52 ∷ 0x41 ∷ 0x57 ∷ []) 21
    ∷ refuses (0x52 ∷ 0x41 ∷ 0x57 ∷ 0x32 ∷ 0x00 ∷ 0x00 ∷ []) 21
    ∷ refuses (0x31 ∷ 0x57 ∷ 0x41 ∷ 0x52 ∷ 0x00 ∷ 0x00 ∷ []) 21
    ∷ refuses (0x00 ∷ 0x00 ∷ []) 21
    ∷ refuses (file []) 22
    ∷ []

-- "Everything after is numbers: seven bits to a byte, lowest group first, top bit set when more follow; at most five bytes. A fifth byte above 15 gives
-- 23 at once, whatever follows. A signed value v is sent as 2v when v ≥ 0 and -2v - 1 when negative."
abbrev numbers : List SmallFile
numbers =
    value (0x00 ∷ 0x02 ∷ []) (pos 1)
    ∷ value (0x00 ∷ 0x01 ∷ []) (negsuc 0)
    ∷ value (0x00 ∷ 0x0D ∷ []) minus_7
    ∷ value (0x00 ∷ 0x7F ∷ []) (negsuc 63)
    ∷ value (0x00 ∷ 0x80 ∷ 0x01 ∷ []) (pos 64)
    ∷ value (0x00 ∷ 0x82 ∷ 0x01 ∷ []) (pos 65)
    ∷ value (0x00 ∷ 0x80 ∷ 0x80 ∷ 0x01 ∷ []) (pos 8192)
    ∷ value (0x00 ∷ 0x80 ∷ 0x80 ∷ 0x80 ∷ 0x01 ∷ []) (pos 1048576)
    ∷ value (0x00 ∷ 0x80 ∷ 0x80 ∷ 0x80 ∷ 0x80 ∷ 0x01 ∷ []) (pos 134217728)
    ∷ value (0x00 ∷ 0xFE ∷ 0xFF ∷ 0xFF ∷ 0xFF ∷ 0x0F ∷ []) (pos 2147483647)
    ∷ value (0x00 ∷ 0xFF ∷ 0xFF ∷ 0xFF ∷ 0xFF ∷ 0x0F ∷ []) (negsuc 2147483647)
    ∷ refuses (file (0x80 ∷ [])) 22
    ∷ refuses (file (0x80 ∷ 0x80 ∷ 0x80 ∷ 0x80 ∷ [])) 22
    ∷ refuses (file (0x00 ∷ [])) 22
    ∷ refuses (file (0x00 ∷ 0x80 ∷ [])) 22
    ∷ refuses (file (0x00 ∷ 0xFF ∷ 0xFF ∷ 0xFF ∷ 0xFF ∷ [])) 22
    ∷ refuses (file (0x80 ∷ 0x80 ∷ 0x80 ∷ 0x80 ∷ 0x10 ∷ [])) 23
    ∷ refuses (file (0x00 ∷ 0xFF ∷ 0xFF ∷ 0xFF ∷ 0xFF ∷ 0x10 ∷ [])) 23
    ∷ refuses (file (0x00 ∷ 0x80 ∷ 0x80 ∷ 0x80 ∷ 0x80 ∷ 0x80 ∷ [])) 23
    ∷ refuses (file (0x00 ∷ 0x80 ∷ 0x80 ∷ 0x80 ∷ 0x80 ∷ 0x80 ∷ 0x00 ∷ [])) 23
    ∷ []

-- "Padding with zero groups is accepted."
abbrev padding : List SmallFile
padding =
    value (0x80 ∷ 0x00 ∷ 0x80 ∷ 0x00 ∷ []) (pos 0)
    ∷ value (0x00 ∷ 0x8A ∷ 0x80 ∷ 0x80 ∷ 0x80 ∷ 0x00 ∷ []) (pos 5)
    ∷ starts (file (0x81 ∷ 0x00 ∷ 0x81 ∷ 0x80 ∷ 0x00 ∷ 0x8A ∷ 0x00 ∷ [])) (WORegister (Some (pos 5))) (pos 5 ∷ [])
    ∷ reads register (0x80 ∷ 0x00 ∷ 0x80 ∷ 0x80 ∷ 0x00 ∷ 0x8A ∷ 0x00 ∷ 0x81 ∷ 0x00 ∷ 0x80 ∷ 0x00 ∷ []) (done 0 write (RRegister WriteOk) ∷ [])
    ∷ []

-- "Header: object (0 register, 1 write-once, 2 stack), then its start: a value; or flag 0, or flag 1 and a value; or a count and values, bottom
-- first." A stack holds at most 32 values at first; any other object or flag is unknown.
abbrev objects : List SmallFile
objects =
    value (0x00 ∷ 0x0A ∷ []) (pos 5)
    ∷ once
    ∷ starts (file (0x01 ∷ 0x01 ∷ 0x0A ∷ [])) (WORegister (Some (pos 5))) (pos 5 ∷ [])
    ∷ starts (file (0x01 ∷ 0x01 ∷ 0x0D ∷ [])) (WORegister (Some minus_7)) (minus_7 ∷ [])
    ∷ stack
    ∷ starts (file (0x02 ∷ 0x01 ∷ 0x0A ∷ [])) (Vec 1) (pos 5 ∷ [])
    ∷ starts (file (0x02 ∷ 0x03 ∷ 0x0A ∷ 0x0D ∷ 0x02 ∷ [])) (Vec 3) (pos 1 ∷ minus_7 ∷ pos 5 ∷ [])
    ∷ starts (file (0x02 ∷ 0x20 ∷ replicate 32 0x0A)) (Vec 32) (replicate 32 (pos 5))
    ∷ refuses (file (0x02 ∷ 0x21 ∷ replicate 33 0x0A)) 25
    ∷ refuses (file (0x01 ∷ 0x02 ∷ 0x0A ∷ [])) 24
    ∷ refuses (file (0x03 ∷ 0x00 ∷ [])) 24
    ∷ refuses (file (0x04 ∷ 0x00 ∷ [])) 24
    ∷ []

-- "The operation or return number, in the order listed above from 0; then its value, flag and value, or length." Of the register: Write, Read; WriteOk,
-- ReadOk.
abbrev registers : List SmallFile
registers =
    reads register (0x00 ∷ 0x00 ∷ 0x0A ∷ []) (flies 0 write ∷ [])
    ∷ reads register (0x00 ∷ 0x01 ∷ []) (flies 0 read ∷ [])
    ∷ stops register (0x00 ∷ 0x02 ∷ []) [] 24 6
    ∷ reads register (0x00 ∷ 0x00 ∷ 0x0A ∷ 0x01 ∷ 0x00 ∷ []) (done 0 write (RRegister WriteOk) ∷ [])
    ∷ reads register (0x00 ∷ 0x01 ∷ 0x01 ∷ 0x01 ∷ 0x0D ∷ []) (done 0 read (RRegister (ReadOk minus_7)) ∷ [])
    ∷ stops register (0x00 ∷ 0x01 ∷ 0x01 ∷ 0x02 ∷ []) (flies 0 read ∷ []) 24 8
    ∷ []

-- Of the write-once register: Write, Read; "write-once returns: WriteOk, WriteFail, ReadOk".
abbrev write_onces : List SmallFile
write_onces =
    reads once (0x00 ∷ 0x00 ∷ 0x0A ∷ []) (flies 0 once_write ∷ [])
    ∷ reads once (0x00 ∷ 0x01 ∷ []) (flies 0 once_read ∷ [])
    ∷ stops once (0x00 ∷ 0x02 ∷ []) [] 24 6
    ∷ reads once (0x00 ∷ 0x00 ∷ 0x0A ∷ 0x01 ∷ 0x00 ∷ []) (done 0 once_write (RWORegister OnceOk) ∷ [])
    ∷ reads once (0x00 ∷ 0x00 ∷ 0x0A ∷ 0x01 ∷ 0x01 ∷ []) (done 0 once_write (RWORegister OnceFail) ∷ [])
    ∷ reads once (0x00 ∷ 0x01 ∷ 0x01 ∷ 0x02 ∷ 0x00 ∷ []) (done 0 once_read (RWORegister (OnceReadOk None)) ∷ [])
    ∷ reads once (0x00 ∷ 0x01 ∷ 0x01 ∷ 0x02 ∷ 0x01 ∷ 0x0D ∷ []) (done 0 once_read (RWORegister (OnceReadOk (Some minus_7))) ∷ [])
    ∷ stops once (0x00 ∷ 0x01 ∷ 0x01 ∷ 0x02 ∷ 0x02 ∷ 0x0A ∷ []) (flies 0 once_read ∷ []) 24 8
    ∷ stops once (0x00 ∷ 0x01 ∷ 0x01 ∷ 0x03 ∷ []) (flies 0 once_read ∷ []) 24 8
    ∷ []

-- Of the stack: Push, Pop, Len; PushOk, PopOk, LenOk, whose length is unsigned.
abbrev stacks : List SmallFile
stacks =
    reads stack (0x00 ∷ 0x00 ∷ 0x0A ∷ []) (flies 0 push ∷ [])
    ∷ reads stack (0x00 ∷ 0x01 ∷ []) (flies 0 pop ∷ [])
    ∷ reads stack (0x00 ∷ 0x02 ∷ []) (flies 0 len ∷ [])
    ∷ stops stack (0x00 ∷ 0x03 ∷ []) [] 24 6
    ∷ reads stack (0x00 ∷ 0x00 ∷ 0x0A ∷ 0x01 ∷ 0x00 ∷ []) (done 0 push (RVec PushOk) ∷ [])
    ∷ reads stack (0x00 ∷ 0x01 ∷ 0x01 ∷ 0x01 ∷ 0x00 ∷ []) (done 0 pop (RVec (PopOk None)) ∷ [])
    ∷ reads stack (0x00 ∷ 0x01 ∷ 0x01 ∷ 0x01 ∷ 0x01 ∷ 0x0D ∷ []) (done 0 pop (RVec (PopOk (Some minus_7))) ∷ [])
    ∷ stops stack (0x00 ∷ 0x01 ∷ 0x01 ∷ 0x01 ∷ 0x02 ∷ 0x0A ∷ []) (flies 0 pop ∷ []) 24 8
    ∷ reads stack (0x00 ∷ 0x02 ∷ 0x01 ∷ 0x02 ∷ 0x03 ∷ []) (done 0 len (RVec (LenOk 3)) ∷ [])
    ∷ reads stack (0x00 ∷ 0x02 ∷ 0x01 ∷ 0x02 ∷ 0xFF ∷ 0xFF ∷ 0xFF ∷ 0xFF ∷ 0x0F ∷ []) (done 0 len (RVec (LenOk 4294967295)) ∷ [])
    ∷ stops stack (0x00 ∷ 0x02 ∷ 0x01 ∷ 0x03 ∷ []) (flies 0 len ∷ []) 24 8
    ∷ []

-- "Then events to the end: a number 2·thread (invoke) or 2·thread + 1 (return)." Threads are 0 to 7, and any other gives 2.
abbrev threads : List SmallFile
threads =
    reads register (0x02 ∷ 0x01 ∷ []) (flies 1 read ∷ [])
    ∷ reads register (0x0E ∷ 0x01 ∷ []) (flies 7 read ∷ [])
    ∷ reads register (0x0E ∷ 0x00 ∷ 0x0A ∷ 0x0F ∷ 0x00 ∷ []) (done 7 write (RRegister WriteOk) ∷ [])
    ∷ reads register (0x00 ∷ 0x01 ∷ 0x02 ∷ 0x00 ∷ 0x0A ∷ 0x03 ∷ 0x00 ∷ 0x01 ∷ 0x01 ∷ 0x00 ∷ []) (done 0 read (RRegister (ReadOk (pos 0))) ∷ done 1 write (RRegister WriteOk) ∷ [])
    ∷ stops register (0x10 ∷ 0x01 ∷ []) [] 2 6
    ∷ stops register (0x11 ∷ 0x00 ∷ []) [] 2 6
    ∷ stops register (0x80 ∷ 0x04 ∷ 0x01 ∷ []) [] 2 6
    ∷ stops register (0xFE ∷ 0xFF ∷ 0xFF ∷ 0xFF ∷ 0x0F ∷ 0x01 ∷ []) [] 2 6
    ∷ []

-- "Fields are judged left to right, cut or size first, meaning second; the event is then recorded." So what means nothing is refused before what
-- stands behind it is read, if anything does; and an event of which a field is refused is not recorded, whatever its thread.
abbrev judged : List SmallFile
judged =
    refuses (file (0x03 ∷ [])) 24
    ∷ refuses (file (0x03 ∷ 0x80 ∷ 0x80 ∷ 0x80 ∷ 0x80 ∷ 0x10 ∷ [])) 24
    ∷ refuses (file (0x01 ∷ [])) 22
    ∷ refuses (file (0x01 ∷ 0x02 ∷ [])) 24
    ∷ refuses (file (0x01 ∷ 0x02 ∷ 0x80 ∷ 0x80 ∷ 0x80 ∷ 0x80 ∷ 0x10 ∷ [])) 24
    ∷ refuses (file (0x01 ∷ 0x01 ∷ [])) 22
    ∷ refuses (file (0x02 ∷ [])) 22
    ∷ refuses (file (0x02 ∷ 0x21 ∷ [])) 25
    ∷ refuses (file (0x02 ∷ 0x21 ∷ 0x80 ∷ 0x80 ∷ 0x80 ∷ 0x80 ∷ 0x10 ∷ [])) 25
    ∷ refuses (file (0x02 ∷ 0x02 ∷ 0x0A ∷ [])) 22
    ∷ refuses (file (0x02 ∷ 0x02 ∷ 0x0A ∷ 0xFF ∷ 0xFF ∷ 0xFF ∷ 0xFF ∷ 0x10 ∷ [])) 23
    ∷ stops register (0x00 ∷ []) [] 22 6
    ∷ stops register (0x80 ∷ []) [] 22 6
    ∷ stops register (0x80 ∷ 0x80 ∷ 0x80 ∷ 0x80 ∷ 0x10 ∷ []) [] 23 6
    ∷ stops register (0x00 ∷ 0x80 ∷ []) [] 22 6
    ∷ stops register (0x00 ∷ 0x80 ∷ 0x80 ∷ 0x80 ∷ 0x80 ∷ 0x10 ∷ []) [] 23 6
    ∷ stops register (0x00 ∷ 0x02 ∷ 0x80 ∷ 0x80 ∷ 0x80 ∷ 0x80 ∷ 0x10 ∷ []) [] 24 6
    ∷ stops register (0x00 ∷ 0x00 ∷ []) [] 22 6
    ∷ stops register (0x00 ∷ 0x00 ∷ 0x80 ∷ 0x80 ∷ 0x80 ∷ 0x80 ∷ 0x10 ∷ []) [] 23 6
    ∷ stops once (0x00 ∷ 0x01 ∷ 0x01 ∷ 0x02 ∷ []) (flies 0 once_read ∷ []) 22 8
    ∷ stops once (0x00 ∷ 0x01 ∷ 0x01 ∷ 0x02 ∷ 0x01 ∷ []) (flies 0 once_read ∷ []) 22 8
    ∷ stops once (0x00 ∷ 0x01 ∷ 0x01 ∷ 0x02 ∷ 0x02 ∷ []) (flies 0 once_read ∷ []) 24 8
    ∷ stops stack (0x00 ∷ 0x02 ∷ 0x01 ∷ 0x02 ∷ []) (flies 0 len ∷ []) 22 8
    ∷ stops register (0x10 ∷ []) [] 22 6
    ∷ stops register (0x10 ∷ 0x02 ∷ []) [] 24 6
    ∷ stops register (0x01 ∷ 0x02 ∷ []) [] 24 6
    ∷ []

-- "Loading stops at the first refusal of any kind." Also where recording refuses; events behind it count for nothing. Places are those of first bytes,
-- however long the header and the events before are.
abbrev stopped : List SmallFile
stopped =
    stops register (0x00 ∷ 0x01 ∷ 0x02 ∷ []) (flies 0 read ∷ []) 22 8
    ∷ stops register (0x10 ∷ 0x01 ∷ 0x00 ∷ 0x01 ∷ []) [] 2 6
    ∷ breaks register (0x00 ∷ 0x01 ∷ 0x00 ∷ 0x01 ∷ 0x10 ∷ 0x02 ∷ []) (flies 0 read ∷ []) 4 8
    ∷ breaks register (0x01 ∷ 0x00 ∷ 0x00 ∷ 0x01 ∷ []) [] 5 6
    ∷ stops register (0x80 ∷ 0x00 ∷ 0x81 ∷ 0x80 ∷ 0x00 ∷ 0x10 ∷ 0x01 ∷ []) (flies 0 read ∷ []) 2 11
    ∷ stops (starts (file (0x02 ∷ 0x02 ∷ 0x0A ∷ 0x0D ∷ [])) (Vec 2) (minus_7 ∷ pos 5 ∷ [])) (0x00 ∷ 0x01 ∷ 0x01 ∷ 0x01 ∷ 0x01 ∷ 0x0D ∷ 0x10 ∷ 0x01 ∷ []) (done 0 pop (RVec (PopOk (Some minus_7))) ∷ []) 2 14
    ∷ []

-- The list.
abbrev pub small_files : List SmallFile
small_files = opened ++ numbers ++ padding ++ objects ++ registers ++ write_onces ++ stacks ++ threads ++ judged ++ stopped

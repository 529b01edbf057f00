-- Trace 13 of document 01, and the bytes of trace 14.
use Rattle.std.specs.Prelude.{ℕ, ◌≡◌, refl, List, [], ◌∷◌, pos, negsuc, drop}
use Rattle.std.proofs.Common.{lit≤}
use Rattle.history.specs.Events.{Events, invoked, returned}
use Rattle.values.specs.Value.{signed}
use Rattle.families.specs.Family.{family_of}
use Rattle.families.specs.Families.{families}
use Rattle.objects.specs.Register.{register_op_form, register_op_from, register_ret_form, register_ret_from}
use Rattle.families.specs.Codes.{op_form, op_from, ret_form, ret_from, start_form, start_from}
use Rattle.families.specs.Objects.{new_register}
use Rattle.families.specs.declared.Op.TheVariants.{Register as ORegister}
use Rattle.families.specs.declared.Ret.TheVariants.{Register as RRegister}
use Rattle.objects.specs.declared.register.RegisterOp.TheVariants.{Write, Read}
use Rattle.objects.specs.declared.register.RegisterRet.TheVariants.{WriteOk}
use Rattle.numbers.specs.declared.refusal.Refusal.TheVariants.{TooBig}
use Rattle.numbers.specs.FileRefusals.{number_of}
use Rattle.numbers.specs.Reader.{got, refused, from, give, ◌then◌}
use Rattle.numbers.specs.Number.{too_big, number_from, number}
use Rattle.format.specs.Format.{value, single, payload, single_start, start_by, object, start, same_bytes, opens, header, operation_of, answer_of, operation, answer, event_of, event}
use Rattle.format.specs.Spelling.{Spells}

-- 13. -1 is sent as 01, and -2147483648 as FF FF FF FF 0F; a fifth byte of 10 (hex) gives 23, whatever follows.

pub minus_one : value (0x01 ∷ []) ≡ got (negsuc 0) 1
unfolding value ◌then◌ number number_from too_big signed from give
minus_one = refl

pub least : value (0xFF ∷ 0xFF ∷ 0xFF ∷ 0xFF ∷ 0x0F ∷ []) ≡ got (negsuc 2147483647) 5
unfolding value ◌then◌ number number_from too_big signed from give
least = refl

pub fifth_byte : (rest : List ℕ) → number (0xFF ∷ 0xFF ∷ 0xFF ∷ 0xFF ∷ 0x10 ∷ rest) ≡ refused TooBig
unfolding number number_from too_big
fifth_byte rest = refl

pub is_twenty_three : number_of TooBig ≡ 23
unfolding number_of
is_twenty_three = refl

-- 14. Trace 3 as a file.

-- Trace 3: a register starts at 65; T0 invokes Read; T1 writes 66, WriteOk.
abbrev pub trace_3 : Events families
trace_3 = invoked 0 (ORegister Read) ∷ invoked 1 (ORegister (Write (pos 66))) ∷ returned 1 (RRegister WriteOk) ∷ []

abbrev pub trace_14 : List ℕ
trace_14 = 0x52 ∷ 0x41 ∷ 0x57 ∷ 0x31 ∷ 0x00 ∷ 0x82 ∷ 0x01 ∷ 0x00 ∷ 0x01 ∷ 0x02 ∷ 0x00 ∷ 0x84 ∷ 0x01 ∷ 0x03 ∷ 0x00 ∷ []

pub trace_header : header trace_14 ≡ got (new_register (pos 65)) 7
unfolding header opens same_bytes start object start_form start_by single_start payload single start_from number number_from too_big signed from give ◌then◌
trace_header = refl

pub trace_spelled : Spells (new_register (pos 65)).kind (drop 7 trace_14) trace_3 8
unfolding event event_of operation operation_of answer answer_of op_form op_from ret_form ret_from register_op_form register_op_from register_ret_form register_ret_from family_of payload single number number_from too_big signed from give ◌then◌ new_register
trace_spelled = (2, refl, lit≤ tt, (4, refl, lit≤ tt, (2, refl, lit≤ tt, refl)))

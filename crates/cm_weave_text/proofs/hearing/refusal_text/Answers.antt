use Rattle.cm_session.specs.declared.command.Refusal.TheVariants.{Width, Range, ZeroFlag, Word, Operands, Number}
use Rattle.cm_weave_text.proofs.Texts.{is_text_of}
use Rattle.cm_weave_text.proofs.hearing.refusal_text.Goals as goal

pub returns-in-Width : goal.returns-in-Width
returns-in-Width c = record { value = is_text_of c.args.refusal Width c.in-Width.is }

pub returns-in-Range : goal.returns-in-Range
returns-in-Range c = record { value = is_text_of c.args.refusal Range c.in-Range.is }

pub returns-in-ZeroFlag : goal.returns-in-ZeroFlag
returns-in-ZeroFlag c = record { value = is_text_of c.args.refusal ZeroFlag c.in-ZeroFlag.is }

pub returns-in-Word : goal.returns-in-Word
returns-in-Word c = record { value = is_text_of c.args.refusal Word c.in-Word.is }

pub returns-in-Operands : goal.returns-in-Operands
returns-in-Operands c = record { value = is_text_of c.args.refusal Operands c.in-Operands.is }

pub returns-in-Number : goal.returns-in-Number
returns-in-Number c = record { value = is_text_of c.args.refusal Number c.in-Number.is }

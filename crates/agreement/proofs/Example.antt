-- The premises hold in both worlds of the example, and so does the claim.
use Rattle.std.specs.Prelude.{◌≡◌, refl, [], ℕ, zero, suc, ◌≤◌}
use Rattle.std.proofs.Common.{arith}
use Rattle.std.specs.Int.Count.{ones, ones_in}
use Rattle.roster.specs.Roster.{valid_roster, quorum, weak_certificate, leader_of}
use Rattle.roster.specs.Mask.{unproven, bit, reaches, beyond, with_site}
use Rattle.roster.specs.Sites.{count_to, all_to, mask_to}
use Rattle.command.specs.Command.{valid_argument, valid_command, all_valid, wrong, all_by, field, proposer, kind, serial, slot, argument, same_request, kinds_table, kinds_conflict, conflict}
use Rattle.history.specs.History.{present, repeated, apart, free, least, without, ordered, canonical, equal, is_canonical, valid_history, improper, comes_off, extends}
use Rattle.history.specs.Words.{padded, valid_stored}
use Rattle.merge.specs.Merge.{appended, merge}
use Rattle.merge.specs.Merged.{answered, merged}
use Rattle.merge.specs.Appending as appending
use Rattle.table.specs.Table.{in_range, row, stored_at, empty_table, valid_row, valid_table}
use Rattle.content.specs.Content.{contradicts}
use Rattle.refusal.specs.Rules.{judged}
use Rattle.frame.specs.Hex.{digit, is_digit, value_of, all_digits, byte_of, number_from, digits_of, spell, numbers, all_fit, total}
use Rattle.frame.specs.Kinds.{uses, is_kind, zero_unless, unused_zero}
use Rattle.frame.specs.Format.{line_of, proper, all_zero, fits, writable, framed, frame_of, is_line, reading_of, malformed, has_room, written_length, written}
use Rattle.site.specs.Site.{seated, valid_record}
use Rattle.acceptor.specs.Acceptor as acceptor
use Rattle.viewchange.specs.ViewChange as viewchange
use Rattle.agreement.specs.Agreement.{Premises, Agreement}
use Rattle.agreement.proofs.AgreementLaws.{agreement}
use Rattle.agreement.specs.Testing.{sent_lines, is_in, names_honest, authentic, all_authentic, premises}
use Rattle.agreement.proofs.Testing.{premises_tested}
use Rattle.agreement.specs.Example.{four, A, B, fast, propose, verifies, votes, lie, suspicion, buffer, tell, calls_of, lines_of, world, said_in, tell_change, changing, voting, changed_calls, changed_calls_of, changed_lines_of, changed_world}

-- no other learner has calls
others : (j : ℕ) → 2 ≤ j → lines_of j ≡ []
unfolding lines_of
others zero p = absurd (omega arith)
others (suc zero) p = absurd (omega arith)
others (suc (suc j)) p = refl

-- the premises hold, the test of them being computed
pub premises_hold : Premises world
unfolding
    four A B fast propose verifies votes lie suspicion buffer tell calls_of lines_of world
    sent_lines is_in names_honest authentic all_authentic premises
    field proposer kind serial slot argument valid_argument valid_command all_valid wrong all_by same_request kinds_table kinds_conflict conflict
    present repeated apart free least without ordered canonical equal is_canonical valid_history improper comes_off extends padded valid_stored
    appended merge answered merged appending.holds appending.reuses appending.nothing_new appending.overflows
    valid_roster quorum weak_certificate leader_of bit reaches beyond unproven with_site ones ones_in count_to all_to mask_to
    in_range row stored_at empty_table valid_row valid_table
    judged
    digit is_digit value_of all_digits byte_of number_from digits_of spell numbers all_fit total
    uses is_kind zero_unless unused_zero line_of proper all_zero fits writable framed frame_of is_line reading_of malformed has_room written_length written
    seated valid_record
    acceptor.config acceptor.not_leader acceptor.opening acceptor.sign acceptor.lengthened contradicts
    acceptor.certificate_of acceptor.convinces acceptor.store acceptor.verifying acceptor.step
    viewchange.config viewchange.suspected viewchange.sets viewchange.suspicion viewchange.step
premises_hold = premises_tested world 2 others refl

-- and the claim holds of it
pub agrees : Agreement world
agrees = agreement world premises_hold

-- ---- the second world

others_changed : (j : ℕ) → 2 ≤ j → changed_lines_of j ≡ []
unfolding changed_lines_of
others_changed zero p = absurd (omega arith)
others_changed (suc zero) p = absurd (omega arith)
others_changed (suc (suc j)) p = refl

pub changed_premises_hold : Premises changed_world
unfolding
    four A B said_in buffer tell tell_change changing voting changed_calls changed_calls_of changed_lines_of world changed_world
    sent_lines is_in names_honest authentic all_authentic premises
    field proposer kind serial slot argument valid_argument valid_command all_valid wrong all_by same_request kinds_table kinds_conflict conflict
    present repeated apart free least without ordered canonical equal is_canonical valid_history improper comes_off extends padded valid_stored
    appended merge answered merged appending.holds appending.reuses appending.nothing_new appending.overflows
    valid_roster quorum weak_certificate leader_of bit reaches beyond unproven with_site ones ones_in count_to all_to mask_to
    in_range row stored_at empty_table valid_row valid_table
    judged
    digit is_digit value_of all_digits byte_of number_from digits_of spell numbers all_fit total
    uses is_kind zero_unless unused_zero line_of proper all_zero fits writable framed frame_of is_line reading_of malformed has_room written_length written
    seated valid_record
    acceptor.config acceptor.not_leader acceptor.opening acceptor.sign acceptor.lags acceptor.lengthened contradicts
    acceptor.certificate_of acceptor.convinces acceptor.store acceptor.verifying acceptor.step
    viewchange.config viewchange.suspected viewchange.sets viewchange.suspicion viewchange.changed viewchange.join viewchange.step
changed_premises_hold = premises_tested changed_world 2 others_changed refl

pub changed_agrees : Agreement changed_world
changed_agrees = agreement changed_world changed_premises_hold

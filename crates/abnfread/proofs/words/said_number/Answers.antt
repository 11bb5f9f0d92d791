use Rattle.abnfread.proofs.SaysNumLemmas.{values-taken, values-large, range-taken, low-large, high-large}
use Rattle.abnfread.proofs.words.said_number.Goals as goal

pub returns-in-Ok : goal.returns-in-Ok
returns-in-Ok c = λ s h.
    let b = c.split_base-base.ensures in
    let d = c.split_digits.ensures in
    values-taken _ c.args.slice.now _ _ _ b.reported b.most d.cut d.digits d.all c.in_default.ensures _ c.in-Ok.ensures
    s h

pub returns-in-Err : goal.returns-in-Err
returns-in-Err c = λ s h e small.
    let b = c.split_base-base.ensures in
    let d = c.split_digits.ensures in
    values-large _ c.args.slice.now _ _ _ b.reported b.most d.cut d.digits d.all c.in_default.ensures
    (λ vs k. c.in-Err.ensures vs k e) s h small

pub returns-in_default-number_in : goal.returns-in_default-number_in
returns-in_default-number_in c = λ s h e small.
    let b = c.split_base-base.ensures in
    let d = c.split_digits.ensures in
    low-large _ c.args.slice.now _ _ _ b.reported b.most d.cut d.digits d.all _ c.in-Some.ensures
    c.in_default-number_in.ensures s h small

pub returns-in-Some-number_in-2 : goal.returns-in-Some-number_in-2
returns-in-Some-number_in-2 c = λ s h.
    let b = c.split_base-base.ensures in
    let d = c.split_digits.ensures in
    let low = c.in-Some-number_in.ensures in
    let high = c.in-Some-number_in-2.ensures in
    range-taken _ c.args.slice.now _ _ _ b.reported b.most d.cut d.digits d.all _ c.in-Some.ensures _ _ low.0 low.1
    high.0
    high.1 s h

pub returns-in-None : goal.returns-in-None
returns-in-None c = λ s h e small.
    let b = c.split_base-base.ensures in
    let d = c.split_digits.ensures in
    high-large _ c.args.slice.now _ _ _ b.reported b.most d.cut d.digits d.all _ c.in-Some.ensures c.in-None.ensures s h
    small

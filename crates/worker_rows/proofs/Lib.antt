mod OneSeat
